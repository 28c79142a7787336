use Rattle.std.proofs.Common.{List, sym, ap, ◌∙◌, slice_get}
use Rattle.std.specs.Str.{chars}
use Rattle.ej_term.specs.Term as term
use Rattle.ej_term.proofs.Options.{unsome}
use Rattle.term_heap.specs.Once.{at}
use Rattle.term_heap.specs.View.{texts_in}
use Rattle.term_heap.specs.declared.known.Known.{Known}
use Rattle.term_heap.proofs.Made.{extends-get}
use Rattle.term_heap.proofs.Sharing.{atom-known}
use Rattle.std.proofs.lemmas.Str.{scalars-chars}
use Rattle.term_heap.proofs.Profiled.{formed-made}
use Rattle.term_heap.proofs.heap.Heap.atom.Goals as goal

pub returns-in-Some-clause-once : goal.returns-in-Some-clause-once
returns-in-Some-clause-once c = record {
  place = c.in_ok-place.place;
  text = c.in_ok-place.ensures.text;
  kept = sym c.kept_name.ensures.kept ∙ c.in-Some.is;
  again = λ other e. (
    unsome c.in-Some.id other (sym c.in-Some.is ∙ c.kept_name.ensures.kept ∙ ap (λ (k : Known). at k.ids.items c.in_ok-place.place) c.push_text.ensures.tables ∙ e),
    c.push_text.ensures.terms,
  );
}

pub keep_name-requires : goal.keep_name-requires
keep_name-requires c = record {
  atom = (
    term.Atom (chars c.args.text.now),
    atom-known (texts_in c.push.new.self) c.in_ok-place.place (chars c.args.text.now) (extends-get (texts_in c.push_text.new.self) (texts_in c.push.new.self) c.in_ok-place.place (chars c.args.text.now) c.in_ok-id.ensures.keeps.texts c.in_ok-place.ensures.text),
    c.in_ok-id.ensures.term ∙ atom-known (texts_in c.push_text.new.self) c.in_ok-place.place (chars c.args.text.now) c.in_ok-place.ensures.text,
  );
}

pub returns-clause-once : goal.returns-clause-once
returns-clause-once c = record {
  place = c.in_ok-place.place;
  text = ap (λ (us : List (List _)). slice_get us c.in_ok-place.place) c.keep_name.ensures.texts
      ∙ extends-get (texts_in c.push_text.new.self) (texts_in c.push.new.self) c.in_ok-place.place (chars c.args.text.now) c.in_ok-id.ensures.keeps.texts c.in_ok-place.ensures.text;
  kept = c.in_ok-keep_name.ensures.kept;
  again = λ other e. absurd (c.in_default.not-Some other (c.kept_name.ensures.kept ∙ ap (λ (k : Known). at k.ids.items c.in_ok-place.place) c.push_text.ensures.tables ∙ e));
}

pub push-requires-clause-profile : goal.push-requires-clause-profile
push-requires-clause-profile c = formed-made _ (term.Atom (chars c.args.text.now)) (atom-known (texts_in c.push_text.new.self) c.in_ok-place.place (chars c.args.text.now) c.in_ok-place.ensures.text) (scalars-chars c.args.text.now c.utf8.text)
