use Rattle.std.proofs.Common.{rules, is_ok}
use Rattle.term_heap.proofs.Adding.{pushed, pushed-seen, pushed-term, extends-itself}
use Rattle.term_heap.specs.Once.{once_of, atom_of}
use Rattle.term_heap.specs.View.{terms_in, parts_in}
use Rattle.term_heap.proofs.Meanings.{same-parts}
use Rattle.term_heap.proofs.Sharing.{kept-still}
use Rattle.term_heap.proofs.Profiled.{formed-pushed}
use Rattle.term_heap.proofs.heap.Heap.push.Goals as goal

pub invariant_of-self : goal.invariant_of-self
invariant_of-self c = record {
  meant = pushed (is_ok c.push.result) c.args.self.now.atoms.keys (parts_in c.args.self.now) c.args.self.now.cells.items c.push.new.self.items c.args.cell
      c.args.self.now.meant c.requires.known c.push.ensures.items;
  once_stand = kept-still once_of (terms_in c.args.self.now) _ c.args.self.now.once.ids.items
      (pushed-seen (is_ok c.push.result) c.args.self.now.atoms.keys (parts_in c.args.self.now) c.args.self.now.cells.items c.push.new.self.items c.args.cell c.args.self.now.meant c.requires.known c.push.ensures.items) c.args.self.now.once_stand;
  named_stand = kept-still (atom_of c.args.self.now.atoms.keys) (terms_in c.args.self.now) _ c.args.self.now.named.ids.items
      (pushed-seen (is_ok c.push.result) c.args.self.now.atoms.keys (parts_in c.args.self.now) c.args.self.now.cells.items c.push.new.self.items c.args.cell c.args.self.now.meant c.requires.known c.push.ensures.items) c.args.self.now.named_stand;
  profile = formed-pushed (is_ok c.push.result) c.args.self.now.atoms.keys (parts_in c.args.self.now) c.args.self.now.cells.items c.push.new.self.items c.args.cell
      c.args.self.now.meant c.requires.known c.requires.profile c.args.self.now.profile c.push.ensures.items;
}

pub returns-clause-keeps : goal.returns-clause-keeps
returns-clause-keeps c = record {
  terms = pushed-seen (is_ok c.push.result) c.args.self.now.atoms.keys (parts_in c.args.self.now) c.args.self.now.cells.items c.push.new.self.items c.args.cell
      c.args.self.now.meant c.requires.known c.push.ensures.items;
  parts = same-parts (parts_in c.args.self.now);
  texts = extends-itself c.args.self.now.atoms.keys;
}

pub returns-clause-term : goal.returns-clause-term
returns-clause-term c = pushed-term c.args.self.now.atoms.keys (parts_in c.args.self.now) c.args.self.now.cells.items c.push.new.self.items c.args.cell c.at.result.0
    c.args.self.now.meant c.requires.known c.in_ok-push.ensures.items (search rules)
