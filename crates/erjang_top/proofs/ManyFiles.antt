-- The work over all files: their classes, the first name that stands twice, and what is put.
use Rattle.std.proofs.Common.{◌≡◌, ℕ, ◌+◌, ◌<◌, ◌≤◌, inl, inr, Bool, true, false, not, if◌then◌else◌, List, [], ◌∷◌, ◌++◌, length, map, take, drop, get_or, Result, Ok, Err, IsErrAnd, Option, None, Some, IfSome, IsSomeAnd, refl, sym, ap, ap₂, subst, ◌∙◌, arith}
use Rattle.std.proofs.lemmas.List.{drop_more, take_more, map-append, take-append-drop}
use Rattle.std.specs.FinMap as files
use Rattle.std.specs.List.{AllByRecursion, AllZip, list_any, position_or_len}
use Rattle.std.specs.Option.{option_map}
use Rattle.std.specs.Str.{bytes_eq}
use Rattle.beam_code.specs.declared.module.Module.{Module}
use Rattle.ej_outside.specs.Counts.{Same, Rises}
use Rattle.ej_outside.specs.declared.fault.Failed as failed
use Rattle.ej_outside.specs.Shelf.{Files, ShelfState, PutsWith, Replaces, MayReplace}
use Rattle.erjang_top.specs.declared.compile.ReadyClass.{ReadyClass}
use Rattle.erjang_top.specs.declared.fault.Fault.{Fault}
use Rattle.erjang_top.specs.declared.fault.Fault.TheVariants as fault
use Rattle.erjang_top.specs.declared.fault.Stopped.{Stopped}
use Rattle.erjang_top.specs.declared.fault.Stopped.TheVariants as stopped
use Rattle.erjang_top.specs.Answers.{Refusal, Absent, Longer, OfSource, NotBuilt, IsOfSource, Blame, IsOf, IsGood, IsBad, StopsAt, First, first_twice, Reached, Counted, Refused, Put, put_each, ArePuts, Compiled, PutFailed, Told, SameCounts, class_file, longest_file}
use Rattle.erjang_top.specs.Sources.{IsSource}
use Rattle.erjang_top.specs.Words.{Compile}
use Rattle.erjang_top.specs.Work.{IsClassOf, IsBuilt, FileFails, FileIsBad, StopsWith, AllStop, WorkStops, Works, PutsSome, PutsAll, modules_of, puts_of, twice_at}
use Rattle.erjang_top.specs.first_path.ClassFile.{Class}
use Rattle.erjang_top.specs.first_path.ClassProfile.{ClassOf}
use Rattle.erjang_top.specs.first_path.ClassTurn.{jvm}
use Rattle.erjang_top.specs.first_path.Emitted.{Emitted}
use Rattle.erjang_top.specs.first_path.ModuleClass.{class_of}
use Rattle.erjang_top.specs.first_path.Run.{run}
use Rattle.erjang_top.specs.first_path.Runs.{TogetherAs}
use Rattle.erjang_top.specs.first_path.Together.{AreAccepted}
use Rattle.erjang_top.proofs.FirstPath.ClassLaw.{only_class}
use Rattle.erjang_top.proofs.FirstPath.SameRuns.{run-together}
use Rattle.erjang_top.proofs.OneFirst.{one_first, same_modules}
use Rattle.erjang_top.proofs.Worked.{told_map}

-- Files that are built are sources of modules.

-- what is known of a file that is built
record Built (held : Files) (outdir file : List ℕ) (class : ReadyClass) : Type 0 where
  source : List ℕ
  is_of : (m : Module) → IsSource source m → IsOf held file m
  class_of_it : IsClassOf outdir source class

of_held : (held : Files) (outdir file : List ℕ) (class : ReadyClass) → IsBuilt held outdir file class → Built held outdir file class
of_held held outdir file class b = go (files.get held file) b (λ m p. p) where
  go : (o : Option (List ℕ)) → IsSomeAnd o (λ bytes. (length bytes ≤ longest_file) × IsClassOf outdir bytes class)
      → ((m : Module) → IsSomeAnd o (λ bytes. (length bytes ≤ longest_file) × IsSource bytes m) → IsOf held file m) → Built held outdir file class
  go None p back = absurd p
  go (Some bytes) p back = record { source = bytes; is_of = λ m is. back m (p.0, is); class_of_it = p.1 }

-- the modules of files that are built, with what their classes are
record Found (held : Files) (outdir : List ℕ) (names : List (List ℕ)) (classes : List ReadyClass) : Type 0 where
  modules : List Module
  sources : AllZip (IsOf held) names modules
  of_modules : modules_of classes ≡ map (λ m. m.name) modules
  named : map (λ p. p.0) (puts_of classes) ≡ map (λ m. class_file outdir m.name) modules
  emitted : AllZip Emitted modules (map (λ p. p.1) (puts_of classes))
  spelled : AllZip ClassOf (map (λ p. p.1) (puts_of classes)) (map class_of modules)
  accepted : AreAccepted modules

found : (held : Files) (outdir : List ℕ) (names : List (List ℕ)) (classes : List ReadyClass) → AllZip (IsBuilt held outdir) names classes → Found held outdir names classes
found held outdir [] [] p = record { modules = []; sources = tt; of_modules = refl; named = refl; emitted = tt; spelled = tt; accepted = tt }
found held outdir [] (class ∷ classes) p = absurd p
found held outdir (name ∷ names) [] p = absurd p
found held outdir (name ∷ names) (class ∷ classes) p =
    let b = of_held held outdir name class p.0 in
    let c = b.class_of_it in
    let rest = found held outdir names classes p.1 in
    record {
      modules = c.module' ∷ rest.modules;
      sources = (b.is_of c.module' c.is_source, rest.sources);
      of_modules = ap₂ (λ (n : List ℕ) (ns : List (List ℕ)). n ∷ ns) c.of_module rest.of_modules;
      named = ap₂ (λ (n : List ℕ) (ns : List (List ℕ)). n ∷ ns) c.named rest.named;
      emitted = (c.emitted, rest.emitted);
      spelled = (c.spelled, rest.spelled);
      accepted = (c.accepted, rest.accepted);
    }

pub all_good : (held : Files) (outdir : List ℕ) (names : List (List ℕ)) (classes : List ReadyClass) → AllZip (IsBuilt held outdir) names classes → AllByRecursion (IsGood held) names
all_good held outdir [] classes p = tt
all_good held outdir (name ∷ names) [] p = absurd p
all_good held outdir (name ∷ names) (class ∷ classes) p =
    let b = of_held held outdir name class p.0 in ((b.class_of_it.module', b.is_of b.class_of_it.module' b.class_of_it.is_source), all_good held outdir names classes p.1)

-- byte strings have one list of classes
same_classes : (bytes : List (List ℕ)) (cs ds : List Class) → AllZip ClassOf bytes cs → AllZip ClassOf bytes ds → cs ≡ ds
same_classes [] [] [] p q = refl
same_classes [] (c ∷ cs) ds p q = absurd p
same_classes [] [] (d ∷ ds) p q = absurd q
same_classes (b ∷ bs) [] ds p q = absurd p
same_classes (b ∷ bs) (c ∷ cs) [] p q = absurd q
same_classes (b ∷ bs) (c ∷ cs) (d ∷ ds) p q = ap₂ (λ (x : Class) (xs : List Class). x ∷ xs) (only_class b c d p.0 q.0) (same_classes bs cs ds p.1 q.1)

together : (ms : List Module) (bytes : List (List ℕ)) → AreAccepted ms → AllZip ClassOf bytes (map class_of ms) → TogetherAs ms bytes
together ms bytes accepted spelled = λ cs are script plain.
    ap (λ (c : List Class). run (jvm c) script) (same_classes bytes cs (map class_of ms) are spelled) ∙ run-together ms accepted script plain

-- what is put for files that are built, no two of them of one name
pub are_puts : (held : Files) (w : Compile) (classes : List ReadyClass) → AllZip (IsBuilt held w.outdir) w.files classes
    → first_twice [] w.files (modules_of classes) ≡ None → ArePuts held w (puts_of classes)
are_puts held w classes p differ =
    let f = found held w.outdir w.files classes p in
    record {
      modules = f.modules;
      sources = f.sources;
      only = λ others are. same_modules held w.files others f.modules are f.sources;
      differ = sym (ap (first_twice [] w.files) f.of_modules) ∙ differ;
      named = f.named;
      emitted = f.emitted;
      together = together f.modules _ f.accepted f.spelled;
    }

-- A file that is refused.

-- the first that is refused by itself, behind good ones
stops : (held : Files) (before after : List (List ℕ)) (blame : Blame) → AllByRecursion (IsGood held) before → IsBad held blame.file blame.cause
    → StopsAt held (before ++ blame.file ∷ after) blame
stops held [] after blame good bad = inl (refl, bad)
stops held (file ∷ before) after blame good bad = inr (good.0, stops held before after blame good.1 bad)

first_stops : (held : Files) (w : Compile) (before after : List (List ℕ)) (blame : Blame) → w.files ≡ before ++ blame.file ∷ after
    → AllByRecursion (IsGood held) before → IsBad held blame.file blame.cause → First held w (Some blame)
first_stops held w before after blame is good bad = inl (subst (λ (fs : List (List ℕ)). StopsAt held fs blame) (sym is) (stops held before after blame good bad))

both_told : (o : Option Files) (P Q R : Files → Type 0) → IfSome o P → IfSome o Q → ((held : Files) → P held → Q held → R held) → IfSome o R
both_told None P Q R p q f = tt
both_told (Some held) P Q R p q f = f held p q

-- where the first refusal is told, there is no other
refused_first : (w : Compile) (blame : Blame) (old new : ShelfState) → IsOfSource blame.cause → Reached old.held w blame.file → IfSome old.held (λ held. First held w (Some blame))
    → Counted blame.cause old new → Refused w blame old new
refused_first w blame old new kind reached told counted = record {
  kind = kind;
  reached = reached;
  told = told;
  only = told_map old.held (λ held. First held w (Some blame)) _ told (λ held first other is. one_first held w other (Some blame) is first);
  counted = counted;
}

bad_refused : (w : Compile) (file : List ℕ) (cause : Refusal) (old new : ShelfState) → IsOfSource cause → Reached old.held w file → FileIsBad file cause old new
    → Refused w (record { file = file; cause = cause }) old new
bad_refused w file cause old new kind reached bad =
    let blame : Blame = record { file = file; cause = cause } in
    refused_first w blame old new kind reached
    (both_told old.held _ _ (λ held. First held w (Some blame)) reached.good bad.told (λ held good is. first_stops held w reached.before reached.after blame reached.is good is))
    bad.counted

pub work_stops : (w : Compile) (file : List ℕ) (f : Fault) (old new : ShelfState) → StopsWith w file f old new → WorkStops w file old f new
work_stops w file fault.Absent old new s = bad_refused w file Absent old new tt s.reached s.fails
work_stops w file fault.Longer old new s = bad_refused w file Longer old new tt s.reached s.fails
work_stops w file (fault.Refused cause) old new s = bad_refused w file (OfSource cause) old new tt s.reached s.fails
work_stops w file (fault.NotBuilt func index) old new s = bad_refused w file (NotBuilt func index) old new tt s.reached s.fails
work_stops w file (fault.SameModule earlier) old new s = absurd s.fails
work_stops w file (fault.Class cause) old new s = absurd s.fails
work_stops w file (fault.Code cause) old new s = absurd s.fails
work_stops w file fault.ReadFailed old new s = record { reached = s.reached; counted = s.fails }
work_stops w file fault.NoMemory old new s = s.fails

stops_all : (w : Compile) (old new : ShelfState) (s : Stopped) → AllStop w old s new → Works w old (Err s) new
stops_all w old new (stopped.At file f) b = work_stops w file.now f old new b
stops_all w old new stopped.WriteFailed b = absurd b
stops_all w old new stopped.NoMemory b = b

-- an error that is passed on
pub work_passed_on : (w : Compile) (old new : ShelfState) (r : Result (Unit {0}) Stopped) (s : Stopped)
    → IsErrAnd r (λ e. e ≡ s) → AllStop w old s new → Works w old r new
work_passed_on w old new (Ok done) s e p = absurd e
work_passed_on w old new (Err other) s e p = subst (λ (x : Stopped). Works w old (Err x) new) (sym e) (stops_all w old new s p)

pub no-some : {A : Type 0} (o : Option A) → ((x : A) → o ≡ Some x → ⊥) → None ≡ o
no-some None f = refl
no-some (Some x) f = absurd (f x refl)

-- A name that stands twice.

-- where a name that stands twice is found among files
record Placed (names : List (List ℕ)) (file : List ℕ) : Type 0 where
  before : List (List ℕ)
  after : List (List ℕ)
  is : names ≡ before ++ file ∷ after

next_placed : (first : List ℕ) (names : List (List ℕ)) (file : List ℕ) → Placed names file → Placed (first ∷ names) file
next_placed first names file p = record { before = first ∷ p.before; after = p.after; is = ap (λ (ns : List (List ℕ)). first ∷ ns) p.is }

placed : (earlier names modules : List (List ℕ)) (blame : Blame) → first_twice earlier names modules ≡ Some blame → Placed names blame.file
placed earlier [] modules blame e = absurd (cc)
placed earlier (name ∷ names) [] blame e = absurd (cc)
placed earlier (name ∷ names) (m ∷ modules) blame e = go (list_any (bytes_eq m) earlier) e (placed (earlier ++ m ∷ []) names modules blame) where
  unsome : (x y : Blame) → ◌≡◌ {A = Option Blame} (Some x) (Some y) → x ≡ y
  unsome x y e = cc

  go : (found : Bool) → (if found then Some (twice_at name (position_or_len (bytes_eq m) earlier + 1)) else first_twice (earlier ++ m ∷ []) names modules) ≡ Some blame
      → (first_twice (earlier ++ m ∷ []) names modules ≡ Some blame → Placed names blame.file) → Placed (name ∷ names) blame.file
  go false e rest = next_placed name names blame.file (rest e)
  go true e rest =
      let same : name ≡ blame.file = ap (λ (b : Blame). b.file) (unsome _ blame e) in
      record { before = []; after = names; is = ap (λ (n : List ℕ). n ∷ names) same }

-- a name that is none of the earlier ones is left behind
pub twice-next : (earlier files names : List (List ℕ)) (file name : List ℕ) → list_any (bytes_eq name) earlier ≡ false
    → first_twice earlier (file ∷ files) (name ∷ names) ≡ first_twice (earlier ++ name ∷ []) files names
twice-next earlier files names file name e =
    ap (λ (found : Bool). if found then Some (twice_at file (position_or_len (bytes_eq name) earlier + 1)) else first_twice (earlier ++ name ∷ []) files names) e

-- and one that is stands twice
pub twice-here : (earlier files names : List (List ℕ)) (file name : List ℕ) → list_any (bytes_eq name) earlier ≡ true
    → first_twice earlier (file ∷ files) (name ∷ names) ≡ Some (twice_at file (position_or_len (bytes_eq name) earlier + 1))
twice-here earlier files names file name e =
    ap (λ (found : Bool). if found then Some (twice_at file (position_or_len (bytes_eq name) earlier + 1)) else first_twice (earlier ++ name ∷ []) files names) e

front_good : (held : Files) (before after : List (List ℕ)) → AllByRecursion (IsGood held) (before ++ after) → AllByRecursion (IsGood held) before
front_good held [] after p = tt
front_good held (file ∷ before) after p = (p.0, front_good held before after p.1)

-- all files are built, and two of their modules have one name
pub work_twice : (w : Compile) (old : ShelfState) (classes : List ReadyClass) (file : List ℕ) (earlier : ℕ)
    → IfSome old.held (λ held. AllZip (IsBuilt held w.outdir) w.files classes) → Some (twice_at file earlier) ≡ first_twice [] w.files (modules_of classes)
    → Refused w (twice_at file earlier) old old
work_twice w old classes file earlier built e =
    let at = placed [] w.files (modules_of classes) (twice_at file earlier) (sym e) in
    refused_first w (twice_at file earlier) old old tt
    (record {
      before = at.before;
      after = at.after;
      is = at.is;
      good = told_map old.held _ _ built
          (λ held b. front_good held at.before _ (subst (AllByRecursion (IsGood held)) at.is (all_good held w.outdir w.files classes b)));
    })
    (told_map old.held _ (λ held. First held w (Some (twice_at file earlier))) built
    (λ held b. let f = found held w.outdir w.files classes b in
    inr (record { modules = f.modules; sources = f.sources; twice = e ∙ ap (first_twice [] w.files) f.of_modules })))
    (record { contents = refl; read_faults = refl; put_faults = refl; misses = refl; longs = refl })

-- What is put.

pub put_more : (before : List Put) (p : Put) (held : Files) → put_each (before ++ p ∷ []) held ≡ files.insert (put_each before held) p.0 p.1
put_more [] p held = refl
put_more (b ∷ before) p held = put_more before p (files.insert held b.0 b.1)

-- one more put, behind others that succeeded
pub replaced_more : (before : List Put) (p : Put) (was mid new : Option Files) → mid ≡ option_map (put_each before) was → Replaces mid p.0 p.1 new
    → new ≡ option_map (put_each (before ++ p ∷ [])) was
replaced_more before p None mid new e q = q ∙ ap (option_map (λ held. files.insert held p.0 p.1)) e
replaced_more before p (Some held) mid new e q =
    q ∙ ap (option_map (λ held. files.insert held p.0 p.1)) e ∙ ap (λ (h : Files). Some h) (sym (put_more before p held))

told_put : (old new : Option Files) (f : Files → Files) (P : Files → Type 0) (Q : Files → Files → Type 0) → new ≡ option_map f old → IfSome old P
    → ((held : Files) → P held → Q held (f held)) → Told old new Q
told_put None new f P Q e p q = subst (λ (o : Option Files). Told None o Q) (sym e) tt
told_put (Some held) new f P Q e p q = subst (λ (o : Option Files). Told (Some held) o Q) (sym e) (q held p)

-- all classes were put
pub work_done : (w : Compile) (old new : ShelfState) (classes : List ReadyClass) → IfSome old.held (λ held. AllZip (IsBuilt held w.outdir) w.files classes)
    → None ≡ first_twice [] w.files (modules_of classes) → PutsWith old new (λ was is. is ≡ option_map (put_each (puts_of classes)) was) Same
    → Told old.held new.held (Compiled w) × SameCounts old new
work_done w old new classes built e p = (
  told_put old.held new.held (put_each (puts_of classes)) _ (Compiled w) p.contents built
      (λ held b. record { puts = puts_of classes; are = are_puts held w classes b (sym e); stands = refl }),
  (p.read_faults, p.put_faults, p.misses, p.longs),
)

-- one was not put, or not wholly
pub work_put_failed : (w : Compile) (old new : ShelfState) (classes : List ReadyClass) → IfSome old.held (λ held. AllZip (IsBuilt held w.outdir) w.files classes)
    → None ≡ first_twice [] w.files (modules_of classes) → PutsSome (puts_of classes) old new → PutFailed w old new
work_put_failed w old new classes built e p = record {
  before = p.before;
  failed = p.failed;
  after = p.after;
  are = told_map old.held _ _ built (λ held b. subst (ArePuts held w) p.are (are_puts held w classes b (sym e)));
  contents = p.puts_with.contents;
  read_faults = p.puts_with.read_faults;
  put_faults = p.puts_with.put_faults;
  misses = p.puts_with.misses;
  longs = p.puts_with.longs;
}

-- Loops over files and classes.

module _ {A : Type 0} where
  pub front-next : (xs : List A) (i : ℕ) (x : A) → i < length xs → x ≡ get_or xs i x → take (i + 1) xs ≡ take i xs ++ x ∷ []
  front-next xs i x within is = take_more xs i x within ∙ ap (λ (y : A). take i xs ++ y ∷ []) (sym is)

  pub rest-next : (xs : List A) (i : ℕ) (x : A) → i < length xs → x ≡ get_or xs i x → drop i xs ≡ x ∷ drop (i + 1) xs
  rest-next xs i x within is = drop_more xs i x within ∙ ap (λ (y : A). y ∷ drop (i + 1) xs) (sym is)

module _ {A B : Type 0} (f : A → B) where
  pub front-map : (xs : List A) (i : ℕ) (x : A) → i < length xs → x ≡ get_or xs i x → map f (take (i + 1) xs) ≡ map f (take i xs) ++ f x ∷ []
  front-map xs i x within is = ap (map f) (front-next xs i x within is) ∙ map-append f (take i xs) (x ∷ [])

  -- an element between what is before it and what is behind it
  pub between : (xs : List A) (i : ℕ) (x : A) → i < length xs → x ≡ get_or xs i x → map f xs ≡ map f (take i xs) ++ f x ∷ map f (drop (i + 1) xs)
  between xs i x within is = ap (map f) (sym (take-append-drop i xs) ∙ ap (λ (ys : List A). take i xs ++ ys) (rest-next xs i x within is)) ∙ map-append f (take i xs) (x ∷ drop (i + 1) xs)

zip-next : {A B : Type 0} (R : A → B → Type 0) (xs : List A) (ys : List B) (x : A) (y : B) → AllZip R xs ys → R x y → AllZip R (xs ++ x ∷ []) (ys ++ y ∷ [])
zip-next R [] [] x y p q = (q, tt)
zip-next R [] (z ∷ ys) x y p q = absurd p
zip-next R (z ∷ xs) [] x y p q = absurd p
zip-next R (w ∷ xs) (z ∷ ys) x y p q = (p.0, zip-next R xs ys x y p.1 q)

-- one more file that is built
pub built-next : (o : Option Files) (outdir : List ℕ) (names : List (List ℕ)) (classes : List ReadyClass) (name : List ℕ) (class : ReadyClass)
    → IfSome o (λ held. AllZip (IsBuilt held outdir) names classes) → IfSome o (λ held. IsBuilt held outdir name class)
    → IfSome o (λ held. AllZip (IsBuilt held outdir) (names ++ name ∷ []) (classes ++ class ∷ []))
built-next o outdir names classes name class p q = both_told o _ _ _ p q (λ held b c. zip-next (IsBuilt held outdir) names classes name class b c)

-- the same with what is known of the new lists
pub built-step : (o : Option Files) (outdir : List ℕ) (names names' : List (List ℕ)) (classes classes' : List ReadyClass) (name : List ℕ) (class : ReadyClass)
    → names' ≡ names ++ name ∷ [] → classes' ≡ classes ++ class ∷ [] → IfSome o (λ held. AllZip (IsBuilt held outdir) names classes)
    → IfSome o (λ held. IsBuilt held outdir name class) → IfSome o (λ held. AllZip (IsBuilt held outdir) names' classes')
built-step o outdir names names' classes classes' name class en ec p q =
    subst (λ (ns : List (List ℕ)). IfSome o (λ held. AllZip (IsBuilt held outdir) ns classes')) (sym en)
    (subst (λ (cs : List ReadyClass). IfSome o (λ held. AllZip (IsBuilt held outdir) (names ++ name ∷ []) cs)) (sym ec) (built-next o outdir names classes name class p q))

-- what is left of a list that is not at its end
pub record Rest {A : Type 0} (xs : List A) (i : ℕ) : Type 0 where
  pub first : A
  pub is : drop i xs ≡ first ∷ drop (i + 1) xs

pub rest : {A : Type 0} (xs : List A) (i : ℕ) → i < length xs → Rest xs i
rest [] i within = absurd (omega (arith, within))
rest (x ∷ xs) i within = record { first = get_or (x ∷ xs) i x; is = drop_more (x ∷ xs) i x within }

is-absent : (b new : Bool) → new ≡ not b → new ≡ true → b ≡ false
is-absent false new e f = refl
is-absent true new e f = absurd (cc)

-- a name that is none of the earlier ones, as it is added to them
pub twice-kept : (all : Option Blame) (earlier earlier' keys files files' names names' : List (List ℕ)) (file name value : List ℕ) (new : Bool)
    → all ≡ first_twice earlier files names → files ≡ file ∷ files' → names ≡ name ∷ names' → earlier' ≡ earlier ++ name ∷ [] → keys ≡ earlier → name ≡ value
    → new ≡ not (list_any (bytes_eq value) keys) → new ≡ true → all ≡ first_twice earlier' files' names'
twice-kept all earlier earlier' keys files files' names names' file name value new whole ef en ee ek ev added is =
    whole ∙ ap₂ (first_twice earlier) ef en
    ∙ twice-next earlier files' names' file name (ap₂ (λ (v : List ℕ) (k : List (List ℕ)). list_any (bytes_eq v) k) ev (sym ek) ∙ is-absent _ new added is)
    ∙ ap (λ (e : List (List ℕ)). first_twice e files' names') (sym ee)

pub keys-kept : (earlier earlier' keys keys' : List (List ℕ)) (name value : List ℕ) (new : Bool)
    → keys' ≡ (if list_any (bytes_eq value) keys then keys else keys ++ value ∷ []) → earlier' ≡ earlier ++ name ∷ [] → keys ≡ earlier → name ≡ value
    → new ≡ not (list_any (bytes_eq value) keys) → new ≡ true → keys' ≡ earlier'
keys-kept earlier earlier' keys keys' name value new e ee ek ev added is =
    e ∙ ap (λ (b : Bool). if b then keys else keys ++ value ∷ []) (is-absent _ new added is)
    ∙ ap₂ (λ (k : List (List ℕ)) (v : List ℕ). k ++ v ∷ []) ek (sym ev) ∙ sym ee

-- a file that fails behind others that are built
pub file-stops : (w : Compile) (old mid new : ShelfState) (before after : List (List ℕ)) (file : List ℕ) (f : Fault) (classes : List ReadyClass)
    → mid ≡ old → w.files ≡ before ++ file ∷ after → IfSome old.held (λ held. AllZip (IsBuilt held w.outdir) before classes) → FileFails file mid f new
    → StopsWith w file f old new
file-stops w old mid new before after file f classes same is built fails = record {
  reached = record { before = before; after = after; is = is; good = told_map old.held _ _ built (λ held b. all_good held w.outdir before classes b) };
  fails = subst (λ (s : ShelfState). FileFails file s f new) same fails;
}

-- one more class that is put, and one that is not
pub puts-next : (old mid new : ShelfState) (before : List Put) (p : Put) → PutsWith old mid (λ was is. is ≡ option_map (put_each before) was) Same
    → PutsWith mid new (λ was is. Replaces was p.0 p.1 is) Same → PutsWith old new (λ was is. is ≡ option_map (put_each (before ++ p ∷ [])) was) Same
puts-next old mid new before p done next = record {
  contents = replaced_more before p old.held mid.held new.held done.contents next.contents;
  read_faults = next.read_faults ∙ done.read_faults;
  put_faults = next.put_faults ∙ done.put_faults;
  misses = next.misses ∙ done.misses;
  longs = next.longs ∙ done.longs;
}

pub puts-stop : (old mid new : ShelfState) (all before after : List Put) (p : Put) → all ≡ before ++ p ∷ after
    → PutsWith old mid (λ was is. is ≡ option_map (put_each before) was) Same → PutsWith mid new (λ was is. MayReplace was p.0 p.1 is) Rises → PutsSome all old new
puts-stop old mid new all before after p are done next = record {
  before = before;
  failed = p;
  after = after;
  are = are;
  puts_with = record {
    contents = subst (λ (o : Option Files). MayReplace o p.0 p.1 new.held) done.contents next.contents;
    read_faults = next.read_faults ∙ done.read_faults;
    put_faults = subst (λ (n : ℕ). Rises n new.put_faults) done.put_faults next.put_faults;
    misses = next.misses ∙ done.misses;
    longs = next.longs ∙ done.longs;
  };
}

pub puts-passed-on : (puts : List Put) (old new : ShelfState) (r : Result (Unit {0}) failed.Failed) (fault : failed.Failed) → IsErrAnd r (λ e. e ≡ fault) → PutsSome puts old new → PutsAll puts old r new
puts-passed-on puts old new (Ok done) fault e p = absurd e
puts-passed-on puts old new (Err other) fault e p = p
