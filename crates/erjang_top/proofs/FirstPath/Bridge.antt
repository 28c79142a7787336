-- A module that the whole definitions accept is compiled, if it has the first path's instructions alone.
use Rattle.std.proofs.Common.{◌≡◌, true, nat_le, List, [], ◌∷◌, map, refl, ◌∙◌}
use Rattle.std.specs.List.{All, list_all, AllByRecursion}
use Rattle.std.proofs.lemmas.Bool.{and_parts, and_from, le-leb}
use Rattle.std.proofs.lemmas.List.Elements.{All-head, All-tail}
use Rattle.beam_code.specs.declared.module.Function.{Function}
use Rattle.beam_code.specs.Code.{function_code}
use Rattle.erjang_compile.specs.Accepted.{FunctionFits}
use Rattle.erjang_compile.specs.Accepted as whole
use Rattle.erjang_top.specs.first_path.Bridge.{Bridges}
use Rattle.erjang_top.specs.first_path.Built.{knows}
use Rattle.erjang_top.specs.first_path.Slots.{WellSlotted}
use Rattle.erjang_top.specs.first_path.Weights.{weight, pool_weight}
use Rattle.erjang_top.proofs.FirstPath.PoolBridge.{pool_fits}
use Rattle.erjang_top.proofs.FirstPath.RangesLaw.{ranges}
use Rattle.erjang_top.proofs.FirstPath.SlotsBridge.{slots_good}
use Rattle.erjang_top.proofs.FirstPath.WeightBridge.{function_fits}

all-slotted : (fs : List Function) → list_all knows fs ≡ true → All whole.WellSlotted (map function_code fs) → AllByRecursion WellSlotted fs
all-slotted [] known h = tt
all-slotted (f ∷ fs) known h =
    let p = and_parts (knows f) (list_all knows fs) known in (
      slots_good f p.0 (All-head whole.WellSlotted (function_code f) (map function_code fs) h),
      all-slotted fs p.1 (All-tail whole.WellSlotted (function_code f) (map function_code fs) h),
    )

all-fit : (fs : List Function) → All FunctionFits (map function_code fs) → list_all (λ f. nat_le (weight f) 32767) fs ≡ true
all-fit [] h = refl
all-fit (f ∷ fs) h =
    and_from (nat_le (weight f) 32767) (list_all (λ g. nat_le (weight g) 32767) fs)
    (le-leb (weight f) 32767 (function_fits f (All-head FunctionFits (function_code f) (map function_code fs) h)))
    (all-fit fs (All-tail FunctionFits (function_code f) (map function_code fs) h))

pub bridges : Bridges
bridges bytes m are s =
    let a = s.accepted in
    record {
      plain = ranges bytes m are a.read.rules ∙ s.built;
      label_rules = a.read.rules.keeps_labels;
      slots = all-slotted m.functions s.built a.read.slotted;
      sizes =
          and_from (list_all (λ f. nat_le (weight f) 32767) m.functions) (nat_le (pool_weight m) 65534) (all-fit m.functions a.fits.functions)
          (le-leb (pool_weight m) 65534 (pool_fits m a.fits.pool));
    }
