use Rattle.std.proofs.Common.{subst}
use Rattle.jvm_code.specs.ReadClass.{class_file, ended}
use Rattle.class_file.specs.Gave.{Given}
use Rattle.class_file.specs.Place.{Place}
use Rattle.class_file.proofs.GivenClass.{given_class}
use Rattle.class_file.proofs.reading.parse.Goals as goal

pub returns-clause-read : goal.returns-clause-read
returns-clause-read c = subst (λ (p : Place). Given (λ c. c) (ended (class_file p.at p.rest)) c.whole.result) c.new-source.ensures c.whole.ensures

pub returns-clause-of : goal.returns-clause-of
returns-clause-of c = given_class c.args.bytes.now c.whole.result (λ k. (c.type_inv.bytes k).fits) (returns-clause-read c)
