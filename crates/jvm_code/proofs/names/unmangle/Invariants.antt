use Rattle.std.proofs.Common.{◌≡◌, ◌++◌, drop}
use Rattle.std.specs.Option.{option_map}
use Rattle.jvm_code.specs.Names.{unmangle, unmangle_from}
use Rattle.jvm_code.specs.NamePlaces.{place_of, Fits}
use Rattle.jvm_code.proofs.names.unmangle.Given as goal

-- what is read so far, and what the rest is read to, are what all is read to
abbrev pub invariant-loop-byte : goal.invariant-loop-byte
invariant-loop-byte l = record {
  told : option_map (λ more. l.bytes.items ++ more) (unmangle_from (place_of l.place) (drop l.byte-index l.text)) ≡ unmangle l.text;
  fits : Fits (place_of l.place);
}
