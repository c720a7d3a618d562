-- Scripts as a sink with a base and rewritings holds them.
use Rattle.std.proofs.Common.{◌≡◌, List, [], ◌++◌, map, length, replicate, sym, ap, ◌∙◌, subst, append-nil, length-append, refl}
use mathlib.Core.List.{map-map}
use Rattle.std.proofs.lemmas.List.{map-append, length-map}
use lib.LanesLaws.{map-replicate}
use Rattle.std.proofs.lemmas.List.Concat.{flat_map-append}
use Rattle.std.proofs.lemmas.List.Folds.{flat_map-map}
use Rattle.std.specs.List.{flat_map}
use Rattle.picture.specs.Script.{Event, Script, rewrite, within, Balanced}
use Rattle.picture.specs.Script.Event.{opened, closed, marked}
use Rattle.picture.specs.Outline.{Start, starts, outline, mark_under}
use Rattle.picture.specs.Feeding.{fed, outline_behind, FeedingKeepsBalance, FeedingKeepsThePicture, FeedingKeepsTheOutline, FedIsToldByItsOutline, FeedingAddsTheBaseAlone, FeedingCounts, FeedingTwiceIsFeedingOnce, seen_behind, start_behind}
use Rattle.picture.proofs.Lists.{map_joined}
use Rattle.picture.proofs.Scripts.{within_rewritten, within_within, rewrite_rewrite, balanced_within, balanced_rewritten, groups_within, marks_within, groups_rewritten, marks_rewritten, length_within}
use Rattle.picture.proofs.Pictures.{groups_unseen}
use Rattle.picture.proofs.Outlines.{start_under, start_rewritten, starts_within, starts_under, outline_rewritten, outline_tells_the_script, picture_is_in_the_outline, mark_seen, starts_opens, starts_closes}

-- the outline of a balanced script within groups: theirs, and then the script's behind them
pub outline_within : {Group Mark : Type 0} {s : Script Group Mark} → Balanced s → (gs : List Group) → outline (within gs s) ≡ outline (within gs []) ++ map (start_under gs) (outline s)
unfolding outline
outline_within p gs = simp (starts_within p, starts_opens, starts_closes, append-nil) (ap (λ (x : List (Start _ _)). starts [] (map opened gs) ++ x) (simp append-nil at (starts_under p gs [])))

module _ {Group Mark Other Sign : Type 0} where
  pub feeding_keeps_balance : FeedingKeepsBalance Group Mark Other Sign
  feeding_keeps_balance base f h s p = balanced_within base (balanced_rewritten f h p)

  pub feeding_keeps_the_outline : FeedingKeepsTheOutline Group Mark Other Sign
  feeding_keeps_the_outline base f h s p =
      outline_within (balanced_rewritten f h p) base
      ∙ ap (λ (x : List (Start Other Sign)). outline (within base []) ++ x)
      (ap (map (start_under base)) (outline_rewritten f h s) ∙ map-map (start_under base) (start_rewritten f h) (outline s))

  -- a mark under its chain, rewritten and behind the base
  mark_behind : (base : List Other) (f : Group → Other) (h : Mark → Sign) (x : Event Group Mark) (chain : List Group) → mark_under (rewrite f h x) (base ++ map f chain) ≡ map (seen_behind base f h) (mark_under x chain)
  mark_behind base f h (opened g) chain = refl
  mark_behind base f h (marked m) chain = refl
  mark_behind base f h closed chain = refl

  pub feeding_keeps_the_picture : FeedingKeepsThePicture Group Mark Other Sign
  feeding_keeps_the_picture base f h s p =
      picture_is_in_the_outline (fed base f h s)
      ∙ ap (flat_map mark_seen) (feeding_keeps_the_outline base f h s p)
      ∙ flat_map-append mark_seen (outline (within base [])) (map (start_behind base f h) (outline s))
      ∙ (λ i. (sym (picture_is_in_the_outline (within base [])) ∙ groups_unseen base) i ++ flat_map-map mark_seen (start_behind base f h) (outline s) i)
      ∙ (λ i. flat_map (λ x. mark_behind base f h x.event x.chain i) (outline s))
      ∙ sym (map_joined (seen_behind base f h) mark_seen (outline s))
      ∙ sym (ap (map (seen_behind base f h)) (picture_is_in_the_outline s))

  pub fed_is_told_by_its_outline : FedIsToldByItsOutline Group Mark Other Sign
  fed_is_told_by_its_outline base f h s p t =
      let b : Balanced (fed base f h s) = feeding_keeps_balance base f h s p in
      let o : outline (fed base f h s) ≡ outline_behind base f h (outline s) = feeding_keeps_the_outline base f h s p in (
        (λ x. outline_tells_the_script t (fed base f h s) x.0 b (x.1 ∙ sym o)),
        λ e. (subst Balanced (sym e) b, ap outline e ∙ o),
      )

  pub feeding_adds_the_base_alone : FeedingAddsTheBaseAlone Group Mark Other Sign
  feeding_adds_the_base_alone base f h s = (simp (groups_within, groups_rewritten), simp (marks_within, marks_rewritten))

  pub feeding_counts : FeedingCounts Group Mark Other Sign
  feeding_counts base f h s = (
    simp (groups_within, groups_rewritten, length-append, length-map),
    simp (marks_within, marks_rewritten, length-map),
    simp (length_within, length-map),
  )

pub feeding_twice_is_feeding_once : {Group Mark Other Sign Third Token : Type 0} → FeedingTwiceIsFeedingOnce Group Mark Other Sign Third Token
feeding_twice_is_feeding_once base f h base' f' h' s = simp (within_rewritten, within_within, rewrite_rewrite)

-- RECORDS THAT STAND FOR EVENTS: a type of records, each of which is read as an event, and a way to write an open and a close
module _ {Record Group Mark Other Sign : Type 0} (event : Record → Event Group Mark) (event' : Record → Event Other Sign) (opens : Other → Record) (close : Record) (rewritten : Record → Record) (f : Group → Other) (h : Mark → Sign) (is_open : (g : Other) → event' (opens g) ≡ opened g) (is_close : event' close ≡ closed) (is_rewritten : (r : Record) → event' (rewritten r) ≡ rewrite f h (event r)) where
  -- records fed, read as events, are the events fed
  pub events_of_fed : (base : List Other) (rs : List Record) → map event' (map opens base ++ map rewritten rs ++ replicate (length base) close) ≡ fed base f h (map event rs)
  events_of_fed base rs = simp (map-append, map-map, map-replicate, is_open, is_close, is_rewritten)
