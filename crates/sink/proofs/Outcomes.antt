-- Outcomes by their parts. Assumes nothing.
use Rattle.std.proofs.Common.{◌≡◌, ℕ, Bool, true, false, cond, List, Some, None, Ok, Err, Option, Result, sym, refl, ap, arith}
use Rattle.refusal.specs.Order.{unless}
use Rattle.record.specs.Records.{Record}
use Rattle.sink.specs.declared.fault.SinkFault.{SinkFault}
use Rattle.sink.specs.Meaning.{Meaning}
use Rattle.sink.specs.Calls.{Outcome, Tried, then, settle, with_script}

-- the answer r and the meaning n after it are those of the outcome
abbrev pub Is : Result (Unit {0}) SinkFault → Meaning → Outcome → Type 0
Is r n o = (r ≡ o.result) × (n ≡ o.next)

pub ok_not_err : {A : Type 0} (u : Unit {0}) (f : SinkFault) → ◌≡◌ {A = Result (Unit {0}) SinkFault} (Ok u) (Err f) → A
ok_not_err u f e = let z : ◌≡◌ {A = ℕ} 0 1 = cc in absurd (omega arith)

pub then_none : (t : Tried) → then t (λ s. Ok s) ≡ t
then_none (Ok s) = refl
then_none (Err f) = refl

pub then_then : (t : Tried) (j k : List Record → Tried) → then (then t j) k ≡ then t (λ s. then (j s) k)
then_then (Ok s) j k = refl
then_then (Err f) j k = refl

-- ---- what checks in their order say

-- the answer of the checks, and the fault of the first that fails
pub unless_ok : (o : Option SinkFault) (u : Unit {0}) → ◌≡◌ {A = Result (Unit {0}) SinkFault} (Ok u) (unless o tt) → o ≡ None
unless_ok None u e = refl
unless_ok (Some f) u e = ok_not_err u f e

pub unless_err : (o : Option SinkFault) (f : SinkFault) → ◌≡◌ {A = Result (Unit {0}) SinkFault} (Err f) (unless o tt) → o ≡ Some f
unless_err None f e = ok_not_err tt f (sym e)
unless_err (Some g) f e = let same : g ≡ f = cc in ap (λ k. Some k) same

-- no check fails
pub none_fails : (b : Bool) (f : SinkFault) (later : Option SinkFault) → cond b (Some f) later ≡ None → (b ≡ false) × (later ≡ None)
none_fails true f later e = let z : ◌≡◌ {A = ℕ} 0 1 = cc in absurd (omega arith)
none_fails false f later e = (refl, e)

module _ (kept m : Meaning) (t : Bool) where
  -- ---- an accepted call

  -- a check of an accepted call does not fail
  pub check_passed : (b : Bool) (f : SinkFault) (later : Option SinkFault) (s : List Record) (u : Unit {0})
      → (settle kept m t (unless (cond b (Some f) later) s)).result ≡ Ok u → (b ≡ false) × ((settle kept m t (unless later s)).result ≡ Ok u)
  check_passed true f later s u e = ok_not_err u f (sym e)
  check_passed false f later s u e = (refl, e)

  pub checked_ok : (o : Option SinkFault) (s : List Record) (u : Unit {0})
      → (settle kept m t (unless o s)).result ≡ Ok u → settle kept m t (unless o s) ≡ record { result = Ok tt; next = with_script m s t }
  checked_ok None s u e = refl
  checked_ok (Some f) s u e = ok_not_err u f (sym e)
