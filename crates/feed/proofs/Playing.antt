-- Records that are fed one by one. Assumes nothing.
use Rattle.std.proofs.Common.{◌≡◌, ℕ, ◌+◌, ◌<◌, ◌≤◌, List, true, false, length, get_or, drop, is_ok, Ok, Err, Result, refl, add-one, arith, drop_of_length-le, drop-cons}
use Rattle.record.specs.Records.{Record}
use Rattle.sink.specs.declared.fault.SinkFault.{SinkFault}
use Rattle.sink.specs.Meaning.{Meaning}
use Rattle.sink.specs.Calls.{cleared, begin_step, end_step}
use Rattle.sink.proofs.Outcomes.{Is}
use Rattle.feed.specs.declared.FeedFault.{FeedFault}
use Rattle.feed.specs.declared.Stage.{Stage}
use Rattle.feed.specs.declared.Stage.TheVariants as stages
use Rattle.feed.specs.Feeding.{Feeding, at_stage, record_step, go_on, fed_from, fed, as_left}

abbrev Answer : Type 0
Answer = Result (Unit {0}) SinkFault

-- ---- one call

pub went_on : (stage : Stage) (a : Answer) (m : Meaning) (rest : Meaning → Feeding) → true ≡ is_ok a → go_on stage a m rest ≡ rest m
went_on stage (Ok u) m rest is = refl
went_on stage (Err f) m rest is = let z : ◌≡◌ {A = ℕ} 0 1 = cc in absurd (omega arith)

pub stopped : (stage : Stage) (a : Answer) (m : Meaning) (rest : Meaning → Feeding) (e : Stage × SinkFault) → false ≡ is_ok a → ((f : SinkFault) → a ≡ Err f → e ≡ (stage, f))
    → go_on stage a m rest ≡ record { result = Err (at_stage e.0 e.1); next = cleared m }
stopped stage (Ok u) m rest e is told = let z : ◌≡◌ {A = ℕ} 0 1 = cc in absurd (omega arith)
stopped stage (Err f) m rest e is told = let same : e ≡ (stage, f) = told f refl in rw same refl

-- ---- the stages

pub fed_begun : (m n : Meaning) (rs : List Record) (a : Answer) → Is a n (begin_step m) → fed m rs ≡ go_on stages.Begin a n (fed_from 0 rs)
fed_begun m n rs a is = rw (is.0, is.1) refl

pub fed_next : (rs : List Record) (i : ℕ) (x : Record) (m n : Meaning) (a : Answer) → i < length rs → Is a n (record_step m (get_or rs i x))
    → fed_from i (drop i rs) m ≡ go_on (stages.Record i) a n (fed_from (i + 1) (drop (i + 1) rs))
unfolding fed_from
fed_next rs i x m n a within is = rw (drop-cons rs i x within, add-one, is.0, is.1) refl

pub fed_ended : (rs : List Record) (i : ℕ) (m n : Meaning) (a : Answer) → length rs ≤ i → Is a n (end_step m)
    → fed_from i (drop i rs) m ≡ go_on stages.End a n (λ p. record { result = Ok tt; next = p })
unfolding fed_from
fed_ended rs i m n a past is = rw (drop_of_length-le rs past, is.0, is.1) refl

-- the whole, from its parts
abbrev pub Draws : Result (Unit {0}) FeedFault → Meaning → Feeding → Type 0
Draws r n o = (r ≡ o.result) × (as_left r n ≡ o.next)

pub draws_ok : (o : Feeding) (n : Meaning) → o ≡ record { result = Ok tt; next = n } → Draws (Ok tt) n o
draws_ok o n e = rw e (refl, refl)

pub draws_err : (o : Feeding) (r : Result (Unit {0}) FeedFault) (f : FeedFault) (n : Meaning) → r ≡ Err f → o ≡ record { result = Err f; next = cleared n } → Draws r n o
draws_err o r f n was e = rw (e, was) (refl, refl)
