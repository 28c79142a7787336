use Rattle.erjang_compile.proofs.OneAnswer.{law}
use Rattle.erjang_compile.proofs.Passing.{early, unslotted, large-so, passes-unsized, passes-sized}
use Rattle.erjang_compile.proofs.checks.accept.Goals as goal

pub returns-in_err-module-clause-first : goal.returns-in_err-module-clause-first
returns-in_err-module-clause-first c =
    early c.args.sizes c.args.bytes.now c.from_residual.result c.in_err-module.field-0.0 c.from_residual.ensures.1 c.in_err-module.ensures

pub returns-in_err-maps-clause-first : goal.returns-in_err-maps-clause-first
returns-in_err-maps-clause-first c =
    unslotted c.args.sizes c.args.bytes.now c.in_ok-module.«module» c.from_residual-in_err-maps.result c.in_err-maps.field-0.0 c.in_ok-module.ensures c.from_residual-in_err-maps.ensures.1
    c.in_err-maps.ensures

pub returns-then-not-sizes-clause-passes : goal.returns-then-not-sizes-clause-passes
returns-then-not-sizes-clause-passes c =
    passes-unsized c.args.sizes c.args.bytes.now c.in_ok-module.«module» c.in_ok-maps.maps c.if-not-sizes.true c.in_ok-module.ensures c.in_ok-maps.ensures

pub returns-in-Some-clause-first : goal.returns-in-Some-clause-first
returns-in-Some-clause-first c =
    large-so c.args.sizes c.args.bytes.now c.in_ok-module.«module» c.in_ok-maps.maps c.in_ok-large.field-0 c.in-Some.large c.if-not-sizes.false c.in_ok-module.ensures c.in_ok-maps.ensures
    c.in_ok-large.ensures c.in-Some.is

pub returns-in-None-clause-passes : goal.returns-in-None-clause-passes
returns-in-None-clause-passes c =
    passes-sized c.args.sizes c.args.bytes.now c.in_ok-module.«module» c.in_ok-maps.maps c.in_ok-large.field-0 c.if-not-sizes.false c.in_ok-module.ensures c.in_ok-maps.ensures
    c.in_ok-large.ensures c.in-None.is

pub returns-in_err-module-clause-one : goal.returns-in_err-module-clause-one
returns-in_err-module-clause-one c = law c.args.sizes c.args.bytes.now

pub returns-in_err-maps-clause-one : goal.returns-in_err-maps-clause-one
returns-in_err-maps-clause-one c = law c.args.sizes c.args.bytes.now

pub returns-then-not-sizes-clause-one : goal.returns-then-not-sizes-clause-one
returns-then-not-sizes-clause-one c = law c.args.sizes c.args.bytes.now

pub returns-in_err-large-clause-one : goal.returns-in_err-large-clause-one
returns-in_err-large-clause-one c = law c.args.sizes c.args.bytes.now

pub returns-in-Some-clause-one : goal.returns-in-Some-clause-one
returns-in-Some-clause-one c = law c.args.sizes c.args.bytes.now

pub returns-in-None-clause-one : goal.returns-in-None-clause-one
returns-in-None-clause-one c = law c.args.sizes c.args.bytes.now
