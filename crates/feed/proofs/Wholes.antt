-- The script that an accepted feeding leaves. Assumes nothing.
use Rattle.std.proofs.Common.{◌≡◌, ℕ, suc, true, false, List, [], ◌∷◌, ◌++◌, map, Ok, Err, Result, sym, refl, ap, ◌∙◌, append_assoc, arith}
use Rattle.record.specs.Records.{Record}
use Rattle.record.specs.declared.Event.TheVariants as variants
use Rattle.sink.specs.declared.fault.SinkFault.{SinkFault}
use Rattle.sink.specs.Meaning.{Meaning, entered}
use Rattle.sink.specs.Base.{base_closed}
use Rattle.sink.specs.Calls.{with_script, begin_step, end_step}
use Rattle.sink.proofs.Outcomes.{checked_ok}
use Rattle.sink.proofs.Begins.{begin_ok}
use Rattle.feed.specs.declared.FeedFault.{FeedFault}
use Rattle.feed.specs.declared.Stage.{Stage}
use Rattle.feed.specs.declared.Stage.TheVariants as stages
use Rattle.feed.specs.Feeding.{Feeding, at_stage, record_step, go_on, fed_from, fed}
use Rattle.feed.specs.Whole.{whole_script}

never : {A : Type 0} (u : Unit {0}) (f : FeedFault) → ◌≡◌ {A = Result (Unit {0}) FeedFault} (Err f) (Ok u) → A
never u f e = let z : ◌≡◌ {A = ℕ} 0 1 = cc in absurd (omega arith)

-- ---- one record, and the end

pub record_ok : (m : Meaning) (r : Record) (u : Unit {0}) → (record_step m r).result ≡ Ok u → (record_step m r).next ≡ with_script m (m.script ++ entered m.rewriting r ∷ []) true
record_ok m (variants.Open g) u e = ap (λ o. o.next) (checked_ok m m true _ _ u e)
record_ok m (variants.Mark k) u e = ap (λ o. o.next) (checked_ok m m true _ _ u e)
record_ok m variants.Close u e = ap (λ o. o.next) (checked_ok m m true _ _ u e)

end_ok : (m : Meaning) (u : Unit {0}) → (end_step m).result ≡ Ok u → (end_step m).next ≡ with_script m (m.script ++ base_closed m.base) false
end_ok m u e = ap (λ o. o.next) (checked_ok m m false _ _ u e)

-- ---- all of it

pub go_ok : (stage : Stage) (a : Result (Unit {0}) SinkFault) (n : Meaning) (rest : Meaning → Feeding) (u : Unit {0}) → (go_on stage a n rest).result ≡ Ok u → (a ≡ Ok tt) × (go_on stage a n rest ≡ rest n)
go_ok stage (Ok v) n rest u e = (refl, refl)
go_ok stage (Err f) n rest u e = never u (at_stage stage f) e

fed_from_ok : (i : ℕ) (rs : List Record) (m : Meaning) (u : Unit {0}) → (fed_from i rs m).result ≡ Ok u
    → (fed_from i rs m).next ≡ with_script m (m.script ++ (map (entered m.rewriting) rs ++ base_closed m.base)) false
unfolding fed_from
fed_from_ok i [] m u e =
    let p = go_ok stages.End (end_step m).result (end_step m).next (λ n. record { result = Ok tt; next = n }) u e in
    ap (λ o. o.next) p.1 ∙ end_ok m tt p.0
fed_from_ok i (r ∷ rs) m u e =
    let o = record_step m r in
    let p = go_ok (stages.Record i) o.result o.next (fed_from (suc i) rs) u e in
    let now = record_ok m r tt p.0 in
    let later = fed_from_ok (suc i) rs o.next u (ap (λ k. k.result) (sym p.1) ∙ e) in
    ap (λ k. k.next) p.1
    ∙ later
    ∙ ap (λ n. with_script n (n.script ++ (map (entered n.rewriting) rs ++ base_closed n.base)) false) now
    ∙ ap (λ s. with_script m s false) (append_assoc m.script (entered m.rewriting r ∷ []) _)

pub fed_ok : (m : Meaning) (rs : List Record) (u : Unit {0}) → (fed m rs).result ≡ Ok u → (fed m rs).next ≡ with_script m (whole_script m rs) false
fed_ok m rs u e =
    let o = begin_step m in
    let p = go_ok stages.Begin o.result o.next (fed_from 0 rs) u e in
    let begun = begin_ok m tt p.0 in
    let later = fed_from_ok 0 rs o.next u (ap (λ k. k.result) (sym p.1) ∙ e) in
    ap (λ k. k.next) p.1 ∙ later ∙ ap (λ n. with_script n (n.script ++ (map (entered n.rewriting) rs ++ base_closed n.base)) false) begun
