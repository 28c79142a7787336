use Rattle.std.proofs.Common.{◌+◌, is_ok, ap₂, ◌++◌, ◌∷◌, ◌∙◌, arith}
use Rattle.forest.specs.Lists.{list_at}
use Rattle.forest.specs.View.{lists_in}
use Rattle.forest.proofs.Placing.{pushed-sound, pushed-few, pushed-keeps, pushed-held, pushed-list}
use Rattle.forest.proofs.Tops.{made-fits}
use Rattle.forest.proofs.forest.Forest.push.Goals as goal

pub invariant_of-self : goal.invariant_of-self
invariant_of-self g c =
    let old = c.args.self.now in
    record {
      few = pushed-few (is_ok c.push.result) old.nodes.items c.push.new.self.items _ (omega (arith, old.nodes.ok.0, c.len-place.ensures, c.if-place-ge-BOUND.false)) c.push.ensures.items;
      grows = pushed-sound (is_ok c.push.result) old.nodes.items c.push.new.self.items _ old.grows
          (made-fits old c.args.top _ c.number.ensures c.number-2.ensures (ap₂ (λ m n. m + n + 1) c.len.ensures.len c.len-2.ensures.len) c.if-len-ge-BOUND.false c.requires) c.push.ensures.items;
    }

pub returns-clause-keeps : goal.returns-clause-keeps
returns-clause-keeps g c = pushed-keeps (is_ok c.push.result) c.args.self.now.nodes.items c.push.new.self.items _ c.push.ensures.items

pub returns-clause-held : goal.returns-clause-held
returns-clause-held g c = pushed-held c.args.self.now.nodes.items c.push.new.self.items _ c.numbered.result.number c.in_ok-push.ensures.items (omega (arith, c.args.self.now.nodes.ok.0, c.len-place.ensures, c.numbered.ensures))

pub returns-clause-list : goal.returns-clause-list
returns-clause-list g c = pushed-list c.args.self.now.nodes.items c.push.new.self.items _ c.numbered.result.number c.in_ok-push.ensures.items (omega (arith, c.args.self.now.nodes.ok.0, c.len-place.ensures, c.numbered.ensures))
    ∙ ap₂ (λ m n. list_at (lists_in c.args.self.now) m ++ c.args.top.item ∷ list_at (lists_in c.args.self.now) n) c.number.ensures c.number-2.ensures
