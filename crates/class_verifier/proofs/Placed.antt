-- Frames that are listed, with a test for the offsets of instructions.
use Rattle.std.proofs.Common.{◌≡◌, ℕ, Bool, true, false, ◌&&◌, List, [], ◌∷◌, map, Option, Some, None, Result, Ok, Err, refl, sym, ap, subst, ◌∙◌}
use Rattle.std.specs.Result.{IsErrAnd}
use Rattle.std.specs.List.{list_all}
use Rattle.std.proofs.lemmas.Bool.{true≢false}
use Rattle.jvm_code.specs.declared.class.Class.{Class}
use Rattle.jvm_code.specs.declared.class.Constant.{Constant}
use Rattle.jvm_code.specs.declared.class.Method.{Method}
use Rattle.jvm_code.specs.declared.types.Frame.{Frame}
use Rattle.jvm_code.specs.Verification.{HasFrames, NoFrames, are_placed, is_start, has_room}
use Rattle.stack_maps.proofs.FramesLaw.{one_list}
use Rattle.stack_maps.specs.declared.fault.MapFault.{MapFault}
use Rattle.stack_maps.specs.declared.fault.MapFault.TheVariants as fault
use Rattle.stack_maps.specs.declared.frame.MapFrame.{MapFrame}
use Rattle.stack_maps.specs.Read.{seen}
use Rattle.class_verifier.specs.Framed.{Listed, Lists, Framed}

-- at most one list
pub one_listed : (pool : List Constant) (maps : Option (ℕ × List ℕ)) (one other : List (ℕ × Frame)) → Listed pool maps one → Listed pool maps other → one ≡ other
one_listed pool None one other e e' = e ∙ sym e'
one_listed pool (Some maps) one other e e' = one_list pool maps.1 one other e e'

-- each stands at an offset that passes, and has room
abbrev pub all_pass : (ℕ → Bool) → Method → List MapFrame → Bool
all_pass starts m frames = list_all (λ (f : MapFrame). starts f.offset && has_room m f.frame) frames

pub placed : (m : Method) (starts : ℕ → Bool) (frames : List MapFrame) → ((n : ℕ) → starts n ≡ is_start m.code n) → all_pass starts m frames ≡ are_placed m (map seen frames)
placed m starts [] same = refl
placed m starts (f ∷ frames) same =
    ap (λ b. (b && has_room m f.frame) && all_pass starts m frames) (same f.offset) ∙ ap (λ b. (is_start m.code f.offset && has_room m f.frame) && b) (placed m starts frames same)

pub has_frames : (class : Class) (m : Method) (frames : List (ℕ × Frame)) → Listed class.pool m.maps frames → are_placed m frames ≡ true → HasFrames class m frames
has_frames class m frames are h = record { are = are; placed = h }

pub no_frames : (class : Class) (m : Method) (frames : List (ℕ × Frame)) → Listed class.pool m.maps frames → are_placed m frames ≡ false → NoFrames class m
no_frames class m frames are h others has = true≢false (sym has.placed ∙ sym (ap (are_placed m) (one_listed class.pool m.maps frames others are has.are)) ∙ h)

pub unlisted : (class : Class) (m : Method) (pool : List Constant) (fault : MapFault) (result : Result (List MapFrame) MapFault) → pool ≡ class.pool → Lists pool m.maps (Err fault)
    → IsErrAnd result (λ e. e ≡ fault) → Framed class m result
unlisted class m pool fault.BadMap (Err e) is none same = subst (λ f. Framed class m (Err f)) (sym same) (λ frames has. none frames (subst (λ p. Listed p m.maps frames) (sym is) has.are))
unlisted class m pool fault.NoMemory (Err e) is none same = subst (λ f. Framed class m (Err f)) (sym same) tt
unlisted class m pool fault (Ok frames) is none same = absurd same
