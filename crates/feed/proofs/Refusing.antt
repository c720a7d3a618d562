-- A refused feeding leaves the sink cleared. Assumes nothing.
use Rattle.std.proofs.Common.{◌≡◌, ℕ, suc, Bool, List, [], ◌∷◌, Ok, Err, Result, refl, ◌∙◌, arith}
use Rattle.record.specs.Records.{Record}
use Rattle.record.specs.declared.Event.TheVariants as variants
use Rattle.sink.specs.declared.fault.SinkFault.{SinkFault}
use Rattle.sink.specs.Meaning.{Meaning}
use Rattle.sink.specs.Calls.{Tried, settle, cleared, begin_step, end_step}
use Rattle.feed.specs.declared.FeedFault.{FeedFault}
use Rattle.feed.specs.declared.Stage.{Stage}
use Rattle.feed.specs.declared.Stage.TheVariants as stages
use Rattle.feed.specs.Feeding.{Feeding, record_step, go_on, fed_from, fed}

-- no call changes the limit, the base or the rewriting
settled_clears : (kept m : Meaning) (t : Bool) (to : Tried) → cleared kept ≡ cleared m → cleared (settle kept m t to).next ≡ cleared m
settled_clears kept m t (Ok s) e = refl
settled_clears kept m t (Err f) e = e

record_clears : (m : Meaning) (r : Record) → cleared (record_step m r).next ≡ cleared m
record_clears m (variants.Open g) = settled_clears m m _ _ refl
record_clears m (variants.Mark k) = settled_clears m m _ _ refl
record_clears m variants.Close = settled_clears m m _ _ refl

-- a refusal comes from this call or from a later one
refused_at : (stage : Stage) (a : Result (Unit {0}) SinkFault) (m n : Meaning) (rest : Meaning → Feeding) (f : FeedFault) → cleared n ≡ cleared m
    → ((rest n).result ≡ Err f → (rest n).next ≡ cleared n) → (go_on stage a n rest).result ≡ Err f → (go_on stage a n rest).next ≡ cleared m
refused_at stage (Ok u) m n rest f same later e = later e ∙ same
refused_at stage (Err g) m n rest f same later e = same

fed_from_refused : (i : ℕ) (rs : List Record) (m : Meaning) (f : FeedFault) → (fed_from i rs m).result ≡ Err f → (fed_from i rs m).next ≡ cleared m
unfolding fed_from
fed_from_refused i [] m f e =
    refused_at stages.End (end_step m).result m (end_step m).next (λ n. record { result = Ok tt; next = n }) f (settled_clears m m _ _ refl) (λ x. let z : ◌≡◌ {A = ℕ} 0 1 = cc in absurd (omega arith)) e
fed_from_refused i (r ∷ rs) m f e =
    let o = record_step m r in
    refused_at (stages.Record i) o.result m o.next (fed_from (suc i) rs) f (record_clears m r) (fed_from_refused (suc i) rs o.next f) e

pub fed_refused : (m : Meaning) (rs : List Record) (f : FeedFault) → (fed m rs).result ≡ Err f → (fed m rs).next ≡ cleared m
fed_refused m rs f e =
    let o = begin_step m in
    refused_at stages.Begin o.result m o.next (fed_from 0 rs) f (settled_clears (cleared m) m _ _ refl) (fed_from_refused 0 rs o.next f) e
