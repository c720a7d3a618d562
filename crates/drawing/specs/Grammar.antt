-- Rows of words: what each word of a line should be, and the first that is missing.
use Rattle.std.specs.Prelude.{◌≡◌, ℕ, Bool, false, cond, List, [], ◌∷◌, length, is_some, Some, None, Option, Result, MatchResult, ◌==◌, nat_lt}
use Rattle.notation.specs.Names.{named, directions, aligns, slices, kinds, attributes}
use Rattle.notation.specs.Words.{first_word, past_word, past_words}
use Rattle.notation.specs.Numbers.{a_number, whole_number}
use Rattle.notation.specs.Lengths.{a_length}
use Rattle.drawing.specs.declared.expected.Expected.{Expected}
use Rattle.drawing.specs.declared.expected.Expected.TheVariants.{Command, Length, Direction, Number, Align, Slice, WholeNumber, Kind, Attribute, Form, Word, End, Text}

-- whether a word is what is expected; the word is empty where there is none
unfoldable pub fits : Expected → List ℕ → Bool
fits Length word = a_length word
fits Direction word = is_some (named directions word)
fits Number word = a_number word
fits Align word = is_some (named aligns word)
fits Slice word = is_some (named slices word)
fits WholeNumber word = is_some (whole_number word)
fits Kind word = is_some (named kinds word)
fits Attribute word = is_some (named attributes word)
fits Word word = nat_lt 0 (length word)
fits End word = length word == 0
-- these stand in no row
fits Command word = false
fits Form word = false
fits Text word = false

-- the first of these that a line lacks, if it lacks one
unfoldable pub missing : List Expected → List ℕ → Option Expected
missing [] line = None
missing (e ∷ es) line = cond (fits e (first_word line)) (missing es (past_word line)) (Some e)

-- of a reading's answer: nothing is missing and it means what it should, or it says what is missing
abbrev pub Reading : {A : Type 0} → Option Expected → (A → Type 0) → Result A Expected → Type 0
Reading m Means r = MatchResult r (λ x. (m ≡ None) × Means x) (λ e. m ≡ Some e)

-- of what reads a row of words off a line and leaves the rest
abbrev pub Part : {A : Type 0} → List Expected → (List ℕ → A → Type 0) → List ℕ → List ℕ → Result A Expected → Type 0
Part es Means line rest r = Reading (missing es line) (λ x. Means line x × (rest ≡ past_words (length es) line)) r
