use Rattle.std.proofs.Common.{get_or, take, drop, sym, ap, ◌∙◌, arith}
use Rattle.std.proofs.lemmas.Str.Pattern.{starts_char}
use Rattle.std.proofs.lemmas.Bool.{both_ways, ne_eqb}
use Rattle.notation.specs.Words.{before_blank, from_blank, first_word, past_word}
use Rattle.notation.proofs.Parting.{trimmed, blank_at, before_blank_is, from_blank_is, nothing_more, some_more}
use Rattle.notation.proofs.word.first_word.Goals as goal

pub returns-then-starts_with : goal.returns-then-starts_with
returns-then-starts_with c =
    let unread = trimmed _ _ c.trim_ascii_start-unread.ensures.value in
    let hash = (starts_char 35 _ _ c.starts_with.ensures.cases (omega arith) (omega arith)).0 c.if-starts_with.true in
    let n = nothing_more c.args.line.now (ap (λ l. get_or l 0 0) unread ∙ hash) in
    record { word = n.0; rest = n.1 }

pub returns : goal.returns
unfolding first_word past_word
returns c =
    let rest = c.trim_ascii_start-unread.result.now in
    let past = trimmed _ _ c.trim_ascii_start-unread.ensures.value in
    let no_hash = (starts_char 35 _ _ c.starts_with.ensures.cases (omega arith) (omega arith)).1 in
    let unread = some_more c.args.line.now (ne_eqb _ _ (λ e. both_ways _ c.if-starts_with.false (no_hash (sym (ap (λ l. get_or l 0 0) past) ∙ e)))) ∙ past in
    let long = c.word_len.ensures ∙ ap blank_at c.as_bytes.ensures.value in
    record {
      word = c.split_at.ensures.front ∙ ap (λ n. take n rest) long ∙ sym (before_blank_is rest) ∙ ap before_blank (sym unread);
      rest = c.split_at.ensures.back ∙ ap (λ n. drop n rest) long ∙ sym (from_blank_is rest) ∙ ap from_blank (sym unread);
    }
