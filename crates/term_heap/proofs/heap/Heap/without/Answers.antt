use Rattle.term_heap.proofs.Adding.{grown, grown-seen, extends-itself, extends-same, more-maps}
use Rattle.term_heap.specs.Cells.{stored}
use Rattle.forest.specs.View.{lists_in}
use Rattle.term_heap.specs.Once.{once_of, atom_of}
use Rattle.term_heap.specs.View.{terms_in, parts_in}
use Rattle.term_heap.proofs.Sharing.{kept-still}
use Rattle.term_heap.proofs.Profiled.{formed-still}
use Rattle.term_heap.proofs.heap.Heap.without.Goals as goal

pub invariant_of-self : goal.invariant_of-self
invariant_of-self c = record {
  meant = grown c.args.self.now.atoms.keys c.args.self.now.atoms.keys (parts_in c.args.self.now) (stored c.args.self.now.parts.items (lists_in c.remove.new.self)) c.args.self.now.cells.items (extends-itself c.args.self.now.atoms.keys) (more-maps c.args.self.now.parts.items (lists_in c.args.self.now.maps) (lists_in c.remove.new.self) c.remove.ensures.keeps) c.args.self.now.meant;
  once_stand = kept-still once_of (terms_in c.args.self.now) _ c.args.self.now.once.ids.items (extends-same _ _ (grown-seen c.args.self.now.atoms.keys c.args.self.now.atoms.keys (parts_in c.args.self.now) (stored c.args.self.now.parts.items (lists_in c.remove.new.self)) c.args.self.now.cells.items (extends-itself c.args.self.now.atoms.keys) (more-maps c.args.self.now.parts.items (lists_in c.args.self.now.maps) (lists_in c.remove.new.self) c.remove.ensures.keeps) c.args.self.now.meant)) c.args.self.now.once_stand;
  named_stand = kept-still (atom_of c.args.self.now.atoms.keys) (terms_in c.args.self.now) _ c.args.self.now.named.ids.items (extends-same _ _ (grown-seen c.args.self.now.atoms.keys c.args.self.now.atoms.keys (parts_in c.args.self.now) (stored c.args.self.now.parts.items (lists_in c.remove.new.self)) c.args.self.now.cells.items (extends-itself c.args.self.now.atoms.keys) (more-maps c.args.self.now.parts.items (lists_in c.args.self.now.maps) (lists_in c.remove.new.self) c.remove.ensures.keeps) c.args.self.now.meant)) c.args.self.now.named_stand;
  profile = formed-still (terms_in c.args.self.now) _ (grown-seen c.args.self.now.atoms.keys c.args.self.now.atoms.keys (parts_in c.args.self.now) (stored c.args.self.now.parts.items (lists_in c.remove.new.self)) c.args.self.now.cells.items (extends-itself c.args.self.now.atoms.keys) (more-maps c.args.self.now.parts.items (lists_in c.args.self.now.maps) (lists_in c.remove.new.self) c.remove.ensures.keeps) c.args.self.now.meant) c.args.self.now.profile;
}

pub returns-clause-terms : goal.returns-clause-terms
returns-clause-terms c = grown-seen c.args.self.now.atoms.keys c.args.self.now.atoms.keys (parts_in c.args.self.now) (stored c.args.self.now.parts.items (lists_in c.remove.new.self)) c.args.self.now.cells.items (extends-itself c.args.self.now.atoms.keys) (more-maps c.args.self.now.parts.items (lists_in c.args.self.now.maps) (lists_in c.remove.new.self) c.remove.ensures.keeps) c.args.self.now.meant

pub returns-clause-keeps : goal.returns-clause-keeps
returns-clause-keeps c = record {
  terms = extends-same _ _ (returns-clause-terms c);
  parts = more-maps c.args.self.now.parts.items (lists_in c.args.self.now.maps) (lists_in c.remove.new.self) c.remove.ensures.keeps;
  texts = extends-itself c.args.self.now.atoms.keys;
}
