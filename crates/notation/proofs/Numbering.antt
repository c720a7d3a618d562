-- What std's `parse` says of a text.
use Rattle.std.proofs.Common.{◌≡◌, ℕ, true, false, List, Some, None, Ok, Err, Result, sym, ap, ◌∙◌, MatchOption}
use lib.Ieee.{Float, binary32}
use Rattle.std.specs.Float.Parse.{ParsesFloat}
use Rattle.std.specs.Str.Parse.{ParsesUnsigned, without_leading_plus, digits_value}
use Rattle.std.specs.Str.{all_ascii_digits}
use Rattle.std.specs.Result.{result_ok}
use Rattle.std.proofs.lemmas.Str.Parse.{IsNumeralModel, numerals_by_value, tells_all_ascii_digits}
use Rattle.std.proofs.lemmas.Bool.{false_from_ne_true, cond-true, cond-false, and_parts, and_from, ltb-true, lt-ltb}
use Rattle.notation.specs.Numbers.{a_number, Number, whole_number}

pub number_read : {E : Type 0} (text : List ℕ) (r : Result Float E) → ParsesFloat binary32 32 text r → MatchOption (result_ok r) (a_number text ≡ false) (λ x. Number text x)
unfolding a_number
number_read text (Ok x) h = record { written = sym h.0; nearest = λ n v. let e = h.1 n v in cc }
number_read text (Err e) h = sym h.0

own : IsNumeralModel (λ ds. all_ascii_digits ds ≡ true) (digits_value 10)
own = numerals_by_value _ tells_all_ascii_digits

pub whole_read : {E : Type 0} (text : List ℕ) (r : Result ℕ E) → ParsesUnsigned 32 10 text r → result_ok r ≡ whole_number text
unfolding whole_number
whole_read text (Ok x) h =
    let ds = without_leading_plus text in
    let all = own.from ds h.0.0.1 in
    ap (λ (n : ℕ). Some n) h.1 ∙ sym (cond-true _ _ None (and_from _ _ (and_from _ _ all (lt-ltb _ _ h.0.0.0)) (lt-ltb _ _ h.0.1)))
whole_read text (Err e) h = sym (cond-false _ (Some (digits_value 10 (without_leading_plus text))) _ (false_from_ne_true _ (λ t.
    let p = and_parts _ _ t in
    let q = and_parts _ _ p.0 in
    h ((ltb-true _ _ q.1, own.to _ q.0), ltb-true _ _ p.1))))
