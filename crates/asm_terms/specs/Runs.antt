-- Fronts of a text: characters that pass a test, and words.
use Rattle.std.specs.Prelude.{ℕ, Bool, false, nat_eq, if◌then◌else◌, List, [], ◌∷◌, Option, None, Some}

-- the longest front of characters that pass
abbrev pub run : (ℕ → Bool) → List ℕ → List ℕ
run p [] = []
run p (c ∷ cs) = if p c then c ∷ run p cs else []

-- the text behind that front
abbrev pub behind : (ℕ → Bool) → List ℕ → List ℕ
behind p [] = []
behind p (c ∷ cs) = if p c then behind p cs else c ∷ cs

-- the first character passes
abbrev pub begins : (ℕ → Bool) → List ℕ → Bool
begins p [] = false
begins p (c ∷ cs) = p c

-- the text behind a word that it begins with
abbrev pub after : List ℕ → List ℕ → Option (List ℕ)
after [] cs = Some cs
after (w ∷ ws) [] = None
after (w ∷ ws) (c ∷ cs) = if nat_eq w c then after ws cs else None
