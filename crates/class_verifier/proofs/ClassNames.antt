-- The names of the profile's classes are texts.
use Rattle.std.proofs.Common.{◌≡◌, codes, refl}
use Rattle.std.specs.Str.{chars}

pub process : chars (codes "erl/Proc") ≡ codes "erl/Proc"
unfolding chars
process = refl

pub term : chars (codes "erl/Term") ≡ codes "erl/Term"
unfolding chars
term = refl

pub trace : chars (codes "erl/Trace") ≡ codes "erl/Trace"
unfolding chars
trace = refl

pub string : chars (codes "java/lang/String") ≡ codes "java/lang/String"
unfolding chars
string = refl
