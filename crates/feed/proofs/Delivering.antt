-- The clauses of `feed`, from the answer and the meaning that it leaves. Assumes nothing.
use Rattle.std.proofs.Common.{◌≡◌, ℕ, true, false, ◌↔◌, List, is_err, Ok, Err, Result, sym, refl, ◌∙◌, subst, arith}
use Rattle.record.specs.Records.{Record}
use Rattle.sink.specs.Meaning.{Meaning}
use Rattle.sink.specs.Calls.{cleared, with_script}
use Rattle.feed.specs.declared.FeedFault.{FeedFault}
use Rattle.feed.specs.Feeding.{fed, as_left}
use Rattle.feed.specs.Whole.{whole_script}
use Rattle.feed.specs.Accepting.{Accepts}
use Rattle.feed.specs.Shown.{MarksBehind, GroupsBehind}
use Rattle.feed.proofs.Wholes.{fed_ok}
use Rattle.feed.proofs.Accepting.{accepted_is_taken, taken_is_accepted}
use Rattle.feed.proofs.Refusing.{fed_refused}
use Rattle.feed.proofs.Showing.{marks_shown, groups_shown}

pub left_as_is : (r : Result (Unit {0}) FeedFault) (n : Meaning) → false ≡ is_err r → n ≡ as_left r n
left_as_is (Ok u) n e = refl
left_as_is (Err f) n e = let z : ◌≡◌ {A = ℕ} 0 1 = cc in absurd (omega arith)

pub left_cleared : (r : Result (Unit {0}) FeedFault) (n : Meaning) → true ≡ is_err r → cleared n ≡ as_left r n
left_cleared (Ok u) n e = let z : ◌≡◌ {A = ℕ} 0 1 = cc in absurd (omega arith)
left_cleared (Err f) n e = refl

module _ (m : Meaning) (rs : List Record) (r : Result (Unit {0}) FeedFault) (n : Meaning) (answer : r ≡ (fed m rs).result) (after : n ≡ (fed m rs).next) where
  pub refused : (fault : FeedFault) → r ≡ Err fault → n ≡ cleared m
  refused fault e = after ∙ fed_refused m rs fault (sym answer ∙ e)

  pub accepted : (r ≡ Ok tt) ↔ Accepts m rs
  accepted = (λ e. accepted_is_taken m rs (sym answer ∙ e), λ a. answer ∙ taken_is_accepted m rs a)

  pub script : r ≡ Ok tt → n ≡ with_script m (whole_script m rs) false
  script e = after ∙ fed_ok m rs tt (sym answer ∙ e)

  pub marks : r ≡ Ok tt → MarksBehind m rs n.script
  marks e = subst (λ k. MarksBehind m rs k.script) (sym (script e)) (marks_shown m rs (accepted.0 e))

  pub groups : r ≡ Ok tt → GroupsBehind m rs n.script
  groups e = subst (λ k. GroupsBehind m rs k.script) (sym (script e)) (groups_shown m rs (accepted.0 e))
