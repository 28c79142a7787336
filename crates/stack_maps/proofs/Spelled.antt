-- What is spelled is the frames, over each pool that has the classes.
use Rattle.std.proofs.Common.{◌≡◌, ℕ, suc, ◌<◌, ◌^◌, Bool, true, false, ◌||◌, if◌then◌else◌, List, [], ◌∷◌, ◌++◌, length, map, Option, None, Some, refl, sym, ap, ◌∙◌, subst, arith}
use Rattle.std.proofs.lemmas.Slice.Eq.{bytes_eq-Decides}
use Rattle.std.specs.List.{flat_map, list_any, AllByRecursion}
use Rattle.std.specs.Option.{option_map}
use Rattle.std.specs.Str.{bytes_eq}
use Rattle.jvm_code.specs.declared.class.Constant.{Constant}
use Rattle.jvm_code.specs.declared.types.Frame.{Frame}
use Rattle.jvm_code.specs.declared.types.VType.{VType}
use Rattle.jvm_code.specs.declared.types.VType.TheVariants as v
use Rattle.jvm_code.specs.Spelling.{u2}
use Rattle.jvm_code.specs.StackMaps as maps
use Rattle.stack_maps.specs.declared.frame.MapFrame.{MapFrame}
use Rattle.stack_maps.specs.Full.{Classes, index_of, IsListed, IsBehind, FitEach, Holds, info_of, infos_of, delta_behind, full_forms, IsWithin}
use Rattle.stack_maps.specs.Read.{seen}
use Rattle.stack_maps.proofs.FramesLaw.{one_list}

module _ (pool : List Constant) where
  named : (classes : Classes) (name : List ℕ) → Holds pool classes → list_any (λ (class : List ℕ × ℕ). bytes_eq class.0 name) classes ≡ true → maps.NamesClass pool (index_of classes name) name
  named [] name h l = absurd cc
  named (c ∷ cs) name h l = go (named cs name h.1) (bytes_eq c.0 name) refl l
    where
      go : (list_any (λ (class : List ℕ × ℕ). bytes_eq class.0 name) cs ≡ true → maps.NamesClass pool (index_of cs name) name) → (b : Bool) → bytes_eq c.0 name ≡ b
          → (b || list_any (λ (class : List ℕ × ℕ). bytes_eq class.0 name) cs) ≡ true → maps.NamesClass pool (if b then c.1 else index_of cs name) name
      go more true e l = subst (maps.NamesClass pool c.1) ((bytes_eq-Decides c.0 name).0 e) h.0
      go more false e l = more l

  module _ (classes : Classes) (h : Holds pool classes) where
    type_is : (t : VType) → IsListed classes t → maps.IsType pool (info_of classes t) t
    type_is v.Top l = tt
    type_is v.Integer l = tt
    type_is v.Long l = tt
    type_is v.Null l = tt
    type_is (v.Class name) l = named classes name h l

    types_are : (ts : List VType) → AllByRecursion (IsListed classes) ts → maps.AreTypes pool (infos_of classes ts) ts
    types_are [] l = tt
    types_are (t ∷ ts) l = (type_is t l.0, types_are ts l.1)

    offset_is : (before : Option MapFrame) (f : MapFrame) → IsBehind before f → f.offset ≡ maps.offset_after (option_map seen before) (delta_behind before f.offset)
    offset_is None f b = refl
    offset_is (Some before) f b = omega (arith, b)

    follow : (before : Option MapFrame) (fs : List MapFrame) → FitEach classes before fs → AllByRecursion maps.IsForm (full_forms classes before fs) → AllByRecursion IsWithin fs
        → maps.FollowEach pool (option_map seen before) (full_forms classes before fs) (map seen fs)
    follow before [] e f w = tt
    follow before (x ∷ fs) e f w = (
      record { fits = f.0; offset = offset_is before x e.0; within = w.0; after = (types_are x.frame.locals e.1.locals_listed, types_are x.frame.stack e.1.stack_listed) },
      follow (Some x) fs e.2 f.1 w.1,
    )

counted : (classes : Classes) (before : Option MapFrame) (fs : List MapFrame) → length (full_forms classes before fs) ≡ length fs
counted classes before [] = refl
counted classes before (x ∷ fs) = ap suc (counted classes (Some x) fs)

pub spelled : (classes : Classes) (fs : List MapFrame) (bytes : List ℕ) → length fs < 2 ^ 16 → FitEach classes None fs → AllByRecursion maps.IsForm (full_forms classes None fs) → AllByRecursion IsWithin fs
    → bytes ≡ u2 (length fs) ++ flat_map maps.form_bytes (full_forms classes None fs) → (pool : List Constant) → Holds pool classes → maps.AreFrames pool bytes (map seen fs)
spelled classes fs bytes l e f w b pool h = record {
  forms = full_forms classes None fs;
  few = subst (λ n. n < 2 ^ 16) (sym (counted classes None fs)) l;
  is = b ∙ ap (λ n. u2 n ++ flat_map maps.form_bytes (full_forms classes None fs)) (sym (counted classes None fs));
  follow = follow pool classes h None fs e f w;
}

seen_tells : (fs gs : List MapFrame) → map seen fs ≡ map seen gs → fs ≡ gs
seen_tells fs gs e = sym (back fs) ∙ ap (map unseen) e ∙ back gs
  where
    unseen : ℕ × Frame → MapFrame
    unseen p = record { offset = p.0; frame = p.1 }

    back : (fs : List MapFrame) → map unseen (map seen fs) ≡ fs
    back [] = refl
    back (f ∷ fs) = ap (λ fs. f ∷ fs) (back fs)

-- and nothing else
pub alone : (pool : List Constant) (bytes : List ℕ) (fs gs : List MapFrame) → maps.AreFrames pool bytes (map seen fs) → maps.AreFrames pool bytes (map seen gs) → gs ≡ fs
alone pool bytes fs gs h i = seen_tells gs fs (one_list pool bytes (map seen gs) (map seen fs) i h)
