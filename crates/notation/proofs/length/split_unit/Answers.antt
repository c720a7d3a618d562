use Rattle.std.proofs.Common.{◌≡◌, ℕ, ◌-◌, List, [], ◌∷◌, ◌++◌, length, take, drop, None, Option, sym, ap, ◌∙◌, subst, arith, Bor, MatchOption}
use Rattle.std.specs.Str.{IsCharBoundary}
use Rattle.std.proofs.lemmas.Bool.{false≢true}
use Rattle.std.proofs.lemmas.Str.Pattern.{strip_suffix_char}
use Rattle.std.proofs.lemmas.Option.{MatchOption-at_some, MatchOption-at_none}
use Rattle.geom.specs.declared.length.Unit.{Unit as LengthUnit}
use Rattle.notation.specs.Lengths.{parts}
use Rattle.notation.specs.Names.{named, units}
use Rattle.notation.proofs.Units.{found, percent_parts, other_parts, no_name}
use Rattle.notation.proofs.length.split_unit.Goals as goal

-- what `strip_suffix` says of the text
abbrev Ends : List ℕ → Bor (List ℕ) → Type 0
Ends text x = text ≡ x.now ++ (37 ∷ [])

abbrev Lacks : List ℕ → Type 0
Lacks text = (front : List ℕ) → text ≡ front ++ (37 ∷ []) → ⊥

-- the parts of a text without a % are told by what its last two bytes name
by_name : (text : List ℕ) (r : Option (Bor (List ℕ))) (o : Option LengthUnit) → MatchOption r (Lacks text) (Ends text) → r ≡ None → named units (drop (length text - 2) text) ≡ o → parts text ≡ found o text
by_name text r o h none e = other_parts text (MatchOption-at_none (Lacks text) (Ends text) none h) ∙ ap (λ (p : Option LengthUnit). found p text) e

pub returns-in-Some : goal.returns-in-Some
returns-in-Some c =
    let text = c.args.text.now in
    let e = MatchOption-at_some (Lacks text) (Ends text) _ c.in-Some.is (strip_suffix_char 37 text _ c.strip_suffix.ensures.cases (omega arith)) in
    sym (ap parts e ∙ percent_parts c.in-Some.number.now)

pub returns-in_default-split_at_checked : goal.returns-in_default-split_at_checked
returns-in_default-split_at_checked c =
    let text = c.args.text.now in
    let apart = subst (λ (n : ℕ). IsCharBoundary text n → ⊥) c.saturating_sub.ensures (λ b. false≢true (c.in_default-split_at_checked.ensures.variant.1 b)) in
    sym (by_name text _ None (strip_suffix_char 37 text _ c.strip_suffix.ensures.cases (omega arith)) c.in_default.is (no_name text (length text - 2) (omega arith) apart))

pub returns-in-Some-unit_of : goal.returns-in-Some-unit_of
returns-in-Some-unit_of c =
    let text = c.args.text.now in
    let cut = c.in-Some-split_at_checked.ensures in
    let at = c.saturating_sub.ensures in
    let p = by_name text _ _ (strip_suffix_char 37 text _ c.strip_suffix.ensures.cases (omega arith)) c.in_default.is (sym (c.unit_of.ensures ∙ ap (named units) (cut.back ∙ ap (λ n. drop n text) at)) ∙ c.in-Some-unit_of.is) in
    ap (λ n. (n, c.in-Some-unit_of.unit)) (cut.front ∙ ap (λ n. take n text) at) ∙ sym p

pub returns-in-None : goal.returns-in-None
returns-in-None c =
    let text = c.args.text.now in
    let cut = c.in-Some-split_at_checked.ensures in
    sym (by_name text _ _ (strip_suffix_char 37 text _ c.strip_suffix.ensures.cases (omega arith)) c.in_default.is (sym (c.unit_of.ensures ∙ ap (named units) (cut.back ∙ ap (λ n. drop n text) c.saturating_sub.ensures)) ∙ c.in-None.is))
