-- What the script of a feeding shows. Assumes nothing.
use Rattle.std.proofs.Common.{◌≡◌, List, ◌++◌, map, length, replicate, sym, refl, ap, ◌∙◌, append_assoc}
use Rattle.std.proofs.lemmas.List.{length-map}
use Rattle.picture.specs.Script.{rewrite}
use Rattle.picture.specs.Picture.{picture}
use Rattle.picture.specs.Outline.{outline}
use Rattle.picture.specs.Feeding.{fed}
use Rattle.picture.proofs.Feeding.{events_of_fed, feeding_keeps_balance, feeding_keeps_the_picture, feeding_keeps_the_outline}
use Rattle.record.specs.Records.{Record}
use Rattle.record.specs.declared.Event.TheVariants as variants
use Rattle.record.specs.Zero.{zeroed_group, zeroed_mark}
use Rattle.sink.specs.Meaning.{Meaning, rewritten, entered}
use Rattle.sink.specs.Base.{own_groups, base_opened}
use Rattle.feed.specs.Whole.{whole_script}
use Rattle.feed.specs.Accepting.{event_of, events, Accepts}
use Rattle.feed.specs.Shown.{MarksBehind, GroupsBehind}

module _ (m : Meaning) (rs : List Record) where
  entered_event : (r : Record) → event_of (entered m.rewriting r) ≡ rewrite (rewritten m.rewriting) zeroed_mark (event_of r)
  entered_event (variants.Open g) = refl
  entered_event (variants.Mark k) = refl
  entered_event variants.Close = refl

  whole_events : events (whole_script m rs) ≡ fed (own_groups m.base) (rewritten m.rewriting) zeroed_mark (events rs)
  whole_events =
      let own = own_groups m.base in
      let n : length own ≡ length m.base.groups = length-map m.base.groups zeroed_group in
      ap events (sym (append_assoc (base_opened m.base) (map (entered m.rewriting) rs) _) ∙ ap (λ k. base_opened m.base ++ map (entered m.rewriting) rs ++ replicate k variants.Close) (sym n))
      ∙ events_of_fed event_of event_of (λ g. variants.Open g) variants.Close (entered m.rewriting) (rewritten m.rewriting) zeroed_mark (λ g. refl) refl entered_event own rs

  pub marks_shown : Accepts m rs → MarksBehind m rs (whole_script m rs)
  marks_shown a = ap picture whole_events ∙ feeding_keeps_the_picture (own_groups m.base) (rewritten m.rewriting) zeroed_mark (events rs) a.balanced

  pub groups_shown : Accepts m rs → GroupsBehind m rs (whole_script m rs)
  groups_shown a =
      let own = own_groups m.base in
      let f = rewritten m.rewriting in
      record {
        balanced = rw whole_events (feeding_keeps_balance own f zeroed_mark (events rs) a.balanced);
        once = ap outline whole_events ∙ feeding_keeps_the_outline own f zeroed_mark (events rs) a.balanced;
      }
