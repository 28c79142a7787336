-- Frames that are read are those of the bytes.
use Rattle.std.proofs.Common.{◌≡◌, ℕ, zero, suc, ◌<◌, ◌≤◌, ◌^◌, nat_le, Bool, true, false, if◌then◌else◌, List, [], ◌∷◌, ◌++◌, length, map, Option, None, Some, Result, Ok, Err, refl, sym, ap, ◌∙◌, subst, append_assoc, append-nil, arith}
use Rattle.std.proofs.lemmas.Bool.{leb-true}
use Rattle.std.proofs.lemmas.Bool.Decides.{nat_tests}
use Rattle.std.specs.List.{flat_map}
use Rattle.std.specs.Option.{option_map}
use Rattle.byteorder.specs.Endian.{big_bytes}
use Rattle.ej_tables.specs.Bytes.{AreBytes}
use Rattle.jvm_code.specs.declared.class.Constant.{Constant}
use Rattle.jvm_code.specs.declared.types.Frame.{Frame}
use Rattle.jvm_code.specs.StackMaps as maps
use Rattle.jvm_code.specs.StackMaps.{Form, form_bytes, delta_of, Follows, FollowEach, AreFrames}
use Rattle.stack_maps.specs.declared.fault.MapFault.{MapFault}
use Rattle.stack_maps.specs.declared.fault.MapFault.TheVariants.{BadMap, NoMemory}
use Rattle.stack_maps.specs.declared.frame.MapFrame.{MapFrame}
use Rattle.stack_maps.specs.Gave.{Given, Decodes}
use Rattle.stack_maps.specs.Read.{Got, done, go_on, then_read, if_some, u2, seen, locals_before, shape, at_offset, placed, map_frame, map_frames, whole, frames}
use Rattle.stack_maps.proofs.Taken.{next, Took, took_nothing, took_both, same_got, chained, number_told, u2_back}
use Rattle.stack_maps.proofs.TypesLaw.{some_told}
use Rattle.stack_maps.proofs.FormsTold.{form_told}
use Rattle.stack_maps.proofs.FormsBack.{form_back}

abbrev unseen : ℕ × Frame → MapFrame
unseen p = record { offset = p.0; frame = p.1 }

-- ---- what is read tells its forms

record Placed (at : ℕ) (frame : Frame) (x : MapFrame) : Type 0 where
  offset : x.offset ≡ at
  within : x.offset < 2 ^ 16
  is : x.frame ≡ frame

at_told : (at : ℕ) (frame : Frame) (x : MapFrame) → at_offset at frame ≡ Some x → Placed at frame x
at_told at frame x e = go (nat_le at 65535) refl e
  where
    inside : (x y : MapFrame) → Path (Option MapFrame) (Some x) (Some y) → x ≡ y
    inside x y e = cc

    go : (c : Bool) → nat_le at 65535 ≡ c → (if c then Some (record { offset = at; frame = frame }) else None) ≡ Some x → Placed at frame x
    go true c e =
        let i = inside (record { offset = at; frame = frame }) x e in
        let l : at ≤ 65535 = leb-true at 65535 c in
        let o : x.offset ≡ at = ap (λ (y : MapFrame). y.offset) (sym i) in
        record { offset = o; within = omega (arith, l, o); is = ap (λ (y : MapFrame). y.frame) (sym i) }
    go false c e = absurd cc

record FrameTook (pool : List Constant) (before : Option MapFrame) (bs : List ℕ) (x : MapFrame) (rest : List ℕ) : Type 0 where
  form : Form
  follows : Follows pool (option_map seen before) form (seen x)
  took : Took bs (form_bytes form) rest

frame_told : (pool : List Constant) (before : Option MapFrame) (bs : List ℕ) (x : MapFrame) (rest : List ℕ) → AreBytes bs → map_frame pool before bs ≡ Some (x, rest) → FrameTook pool before bs x rest
frame_told pool before bs x rest b e =
    let h = chained (shape pool (locals_before before) bs) (placed before) (x, rest) e in
    let f = form_told pool (maps.frame_before (option_map seen before)) bs h.value h.rest b h.first in
    let s = some_told (at_offset (maps.offset_after (option_map seen before) h.value.0) h.value.1) h.rest x rest h.second in
    let p = at_told (maps.offset_after (option_map seen before) h.value.0) h.value.1 x s.0 in
    record {
      form = f.shape;
      follows = record {
        fits = f.fits;
        offset = p.offset ∙ ap (maps.offset_after (option_map seen before)) f.delta;
        within = p.within;
        after = subst (maps.After pool (maps.frame_before (option_map seen before)) f.shape) (sym p.is) f.after;
      };
      took = subst (λ r. Took bs (form_bytes f.shape) r) s.1 f.took;
    }

record FramesTook (pool : List Constant) (count : ℕ) (before : Option MapFrame) (bs : List ℕ) (fs : List MapFrame) (rest : List ℕ) : Type 0 where
  forms : List Form
  counted : length forms ≡ count
  follow : FollowEach pool (option_map seen before) forms (map seen fs)
  took : Took bs (flat_map form_bytes forms) rest

frames_told : (pool : List Constant) (count : ℕ) (before : Option MapFrame) (bs : List ℕ) (fs : List MapFrame) (rest : List ℕ) → AreBytes bs → map_frames pool count before bs ≡ Some (fs, rest) → FramesTook pool count before bs fs rest
frames_told pool zero before bs fs rest b e =
    let s = same_got e in
    record { forms = []; counted = refl; follow = subst (λ (fs : List MapFrame). FollowEach pool (option_map seen before) [] (map seen fs)) s.0 tt; took = took_nothing bs rest b s.1 }
frames_told pool (suc n) before bs fs rest b e =
    let h = chained (map_frame pool before bs) (λ p. then_read (map_frames pool n (Some p)) (λ ps. done (p ∷ ps))) (fs, rest) e in
    let f = frame_told pool before bs h.value h.rest b h.first in
    let k = chained (map_frames pool n (Some h.value) h.rest) (λ ps. done (h.value ∷ ps)) (fs, rest) h.second in
    let s = same_got k.second in
    let m = frames_told pool n (Some h.value) h.rest k.value k.rest f.took.bytes k.first in
    record {
      forms = f.form ∷ m.forms;
      counted = next (length m.forms) n m.counted;
      follow = subst (λ (fs : List MapFrame). FollowEach pool (option_map seen before) (f.form ∷ m.forms) (map seen fs)) s.0 (f.follows, m.follow);
      took = took_both bs (form_bytes f.form) h.rest (flat_map form_bytes m.forms) rest f.took (subst (λ r. Took h.rest (flat_map form_bytes m.forms) r) s.1 m.took);
    }

whole_told : (g : Got (List MapFrame)) (fs : List MapFrame) → whole g ≡ Some fs → g ≡ Some (fs, [])
whole_told None fs e = absurd cc
whole_told (Some (x, [])) fs e = ap (λ x. Some (x, [])) (inside x fs e)
  where
    inside : (x y : List MapFrame) → Path (Option (List MapFrame)) (Some x) (Some y) → x ≡ y
    inside x y e = cc
whole_told (Some (x, (b ∷ bs))) fs e = absurd cc

pub all_told : (pool : List Constant) (bytes : List ℕ) (fs : List MapFrame) → AreBytes bytes → frames pool bytes ≡ Some fs → AreFrames pool bytes (map seen fs)
all_told pool bytes fs b e =
    let h = chained (u2 bytes) (λ count. map_frames pool count None) (fs, []) (whole_told _ fs e) in
    let n = number_told 2 bytes h.value h.rest b h.first in
    let m = frames_told pool h.value None h.rest fs [] n.0.bytes h.second in
    record {
      forms = m.forms;
      few = subst (λ n. n < 2 ^ 16) (sym m.counted) n.1;
      is = n.0.is ∙ ap (λ n. big_bytes 2 n ++ h.rest) (sym m.counted) ∙ ap (λ r. big_bytes 2 (length m.forms) ++ r) (m.took.is ∙ append-nil (flat_map form_bytes m.forms));
      follow = m.follow;
    }

-- ---- and what is spelled is read

at_back : (at : ℕ) (p : ℕ × Frame) → p.0 ≡ at → p.0 < 2 ^ 16 → at_offset at p.1 ≡ Some (unseen p)
at_back at p e l =
    let c : nat_le at 65535 ≡ true = within at (omega (arith, e, l)) in
    ap (λ c. if c then Some (record { offset = at; frame = p.1 }) else None) c ∙ ap (λ at. Some (record { offset = at; frame = p.1 })) (sym e)
  where
    within : (n : ℕ) → n ≤ 65535 → nat_le n 65535 ≡ true
    within n l = grind (arith, nat_tests)

frame_back : (pool : List Constant) (before : Option MapFrame) (form : Form) (p : ℕ × Frame) (rest : List ℕ) → Follows pool (option_map seen before) form p → map_frame pool before (form_bytes form ++ rest) ≡ Some (unseen p, rest)
frame_back pool before form p rest h =
    ap (λ g. go_on g (placed before)) (form_back pool (maps.frame_before (option_map seen before)) form p.1 rest h.fits h.after)
    ∙ ap (λ (o : Option MapFrame). if_some o rest) (at_back (maps.offset_after (option_map seen before) (delta_of form)) p h.offset h.within)

frames_back : (pool : List Constant) (before : Option MapFrame) (forms : List Form) (ps : List (ℕ × Frame)) (rest : List ℕ) → FollowEach pool (option_map seen before) forms ps
    → map_frames pool (length forms) before (flat_map form_bytes forms ++ rest) ≡ Some (map unseen ps, rest)
frames_back pool before [] [] rest h = refl
frames_back pool before [] (p ∷ ps) rest h = absurd h
frames_back pool before (f ∷ fs) [] rest h = absurd h
frames_back pool before (f ∷ fs) (p ∷ ps) rest h =
    ap (map_frames pool (suc (length fs)) before) (append_assoc (form_bytes f) (flat_map form_bytes fs) rest)
    ∙ ap (λ g. go_on g (λ p. then_read (map_frames pool (length fs) (Some p)) (λ ps. done (p ∷ ps)))) (frame_back pool before f p (flat_map form_bytes fs ++ rest) h.0)
    ∙ ap (λ g. go_on g (λ ps. done (unseen p ∷ ps))) (frames_back pool (Some (unseen p)) fs ps rest h.1)

pub all_back : (pool : List Constant) (bytes : List ℕ) (ps : List (ℕ × Frame)) → AreFrames pool bytes ps → frames pool bytes ≡ Some (map unseen ps)
all_back pool bytes ps h =
    ap (frames pool) (h.is ∙ ap (λ t. big_bytes 2 (length h.forms) ++ t) (sym (append-nil (flat_map form_bytes h.forms))))
    ∙ ap (λ g. whole (go_on g (λ count. map_frames pool count None))) (u2_back (length h.forms) (flat_map form_bytes h.forms ++ []) h.few)
    ∙ ap whole (frames_back pool None h.forms ps [] h.follow)

-- ---- so for what decodes

pub decodes : (pool : List Constant) (bytes : List ℕ) (result : Result (List MapFrame) MapFault) → AreBytes bytes → Given (frames pool bytes) result → Decodes pool bytes result
decodes pool bytes (Ok fs) b g = all_told pool bytes fs b g
decodes pool bytes (Err BadMap) b g = λ ps h. none (map unseen ps) (sym g ∙ all_back pool bytes ps h)
  where
    none : (fs : List MapFrame) → Path (Option (List MapFrame)) None (Some fs) → ⊥
    none fs e = absurd cc
decodes pool bytes (Err NoMemory) b g = tt

seen_all : (ps : List (ℕ × Frame)) → map seen (map unseen ps) ≡ ps
seen_all [] = refl
seen_all (p ∷ ps) = ap (λ ps. p ∷ ps) (seen_all ps)

-- bytes have one list of frames at most
pub one_list : (pool : List Constant) (bytes : List ℕ) (one other : List (ℕ × Frame)) → AreFrames pool bytes one → AreFrames pool bytes other → one ≡ other
one_list pool bytes one other h i =
    sym (seen_all one) ∙ ap (map seen) (inside (map unseen one) (map unseen other) (sym (all_back pool bytes one h) ∙ all_back pool bytes other i)) ∙ seen_all other
  where
    inside : (x y : List MapFrame) → Path (Option (List MapFrame)) (Some x) (Some y) → x ≡ y
    inside x y e = cc
