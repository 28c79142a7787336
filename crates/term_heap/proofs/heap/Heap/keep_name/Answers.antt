use Rattle.term_heap.specs.Once.{atom_of}
use Rattle.term_heap.specs.View.{terms_in, texts_in}
use Rattle.term_heap.proofs.Sharing.{kept-set}
use Rattle.term_heap.proofs.heap.Heap.keep_name.Goals as goal

pub invariant_of-self : goal.invariant_of-self
invariant_of-self c = record {
  meant = c.args.self.now.meant;
  once_stand = c.args.self.now.once_stand;
  named_stand = kept-set (atom_of (texts_in c.args.self.now)) (terms_in c.args.self.now) c.args.self.now.named.ids.items c.set.new.self.ids.items c.args.place c.args.id c.requires.atom.0 c.set.result
      c.set.ensures.others c.set.ensures.here c.set.ensures.refused c.requires.atom.1 c.requires.atom.2 c.args.self.now.named_stand;
  profile = c.args.self.now.profile;
}
