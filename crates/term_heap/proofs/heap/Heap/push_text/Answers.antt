use Rattle.term_heap.proofs.Adding.{grown, grown-seen, extends-same}
use Rattle.term_heap.specs.Once.{once_of}
use Rattle.term_heap.specs.View.{terms_in, parts_in}
use Rattle.term_heap.proofs.Meanings.{same-parts}
use Rattle.term_heap.proofs.Sharing.{kept-still, named-still}
use Rattle.term_heap.proofs.Profiled.{formed-still}
use Rattle.term_heap.proofs.heap.Heap.push_text.Goals as goal

pub invariant_of-self : goal.invariant_of-self
invariant_of-self c = record {
  meant = grown c.args.self.now.atoms.keys c.place_of.new.texts.keys (parts_in c.args.self.now) (parts_in c.args.self.now) c.args.self.now.cells.items
      c.place_of.ensures.keeps (same-parts (parts_in c.args.self.now)) c.args.self.now.meant;
  once_stand = kept-still once_of (terms_in c.args.self.now) _ c.args.self.now.once.ids.items (extends-same _ _ (grown-seen c.args.self.now.atoms.keys c.place_of.new.texts.keys (parts_in c.args.self.now) (parts_in c.args.self.now) c.args.self.now.cells.items c.place_of.ensures.keeps (same-parts (parts_in c.args.self.now)) c.args.self.now.meant)) c.args.self.now.once_stand;
  named_stand = named-still c.args.self.now.atoms.keys c.place_of.new.texts.keys (terms_in c.args.self.now) _ c.args.self.now.named.ids.items c.place_of.ensures.keeps (grown-seen c.args.self.now.atoms.keys c.place_of.new.texts.keys (parts_in c.args.self.now) (parts_in c.args.self.now) c.args.self.now.cells.items c.place_of.ensures.keeps (same-parts (parts_in c.args.self.now)) c.args.self.now.meant) c.args.self.now.named_stand;
  profile = formed-still (terms_in c.args.self.now) _ (grown-seen c.args.self.now.atoms.keys c.place_of.new.texts.keys (parts_in c.args.self.now) (parts_in c.args.self.now) c.args.self.now.cells.items
      c.place_of.ensures.keeps (same-parts (parts_in c.args.self.now)) c.args.self.now.meant) c.args.self.now.profile;
}

pub returns-clause-terms : goal.returns-clause-terms
returns-clause-terms c = grown-seen c.args.self.now.atoms.keys c.place_of.new.texts.keys (parts_in c.args.self.now) (parts_in c.args.self.now) c.args.self.now.cells.items
    c.place_of.ensures.keeps (same-parts (parts_in c.args.self.now)) c.args.self.now.meant

pub returns-clause-keeps : goal.returns-clause-keeps
returns-clause-keeps c = record {
  terms = extends-same _ _ (returns-clause-terms c);
  parts = same-parts (parts_in c.args.self.now);
  texts = c.place_of.ensures.keeps;
}
