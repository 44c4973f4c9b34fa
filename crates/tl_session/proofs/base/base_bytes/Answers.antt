use Rattle.std.proofs.Common.{◌≡◌, ◌+◌, ◌++◌, ◌∷◌, [], sym, ap, ◌∙◌, take, get_or}
use Rattle.std.proofs.lemmas.List.{take_more}
use Rattle.tl_session.specs.Written.{base_of}
use Rattle.tl_session.proofs.Bases.{is_cut_in, base_at_slash, cut_at_slash, base_at_dot, cut_at_dot, base_at_other, base_when_cut, cut_at_other}
use Rattle.tl_session.proofs.base.base_bytes.Goals as goal
use Rattle.tl_session.proofs.base.base_bytes.Goals.{then-byte-eq47, else-byte-eq47+then-byte-eq46, else-byte-eq47+else-byte-eq46+then-not-is_cut+in_ok-push, else-byte-eq47+else-byte-eq46+else-not-is_cut}

pub loop-byte-preserved : goal.loop-byte-preserved
loop-byte-preserved c =
    let i = c.loop-byte.byte-index in
    let xs = take i c.args.name.now in
    let b = get_or c.args.name.now i 0 in
    let more : take (i + 1) c.args.name.now ≡ xs ++ b ∷ [] = take_more c.args.name.now i 0 c.loop-byte-test.true in
    let base : base_of (take (i + 1) c.args.name.now) ≡ base_of (xs ++ b ∷ []) = ap base_of more in
    let cut : is_cut_in (take (i + 1) c.args.name.now) ≡ is_cut_in (xs ++ b ∷ []) = ap is_cut_in more in
    elim c.if-byte-eq47.branch [
      | then-byte-eq47 w ↦ record {
        base_so_far = ap (λ v. v.items) w.base-is ∙ (w.clear.ensures.items ∙ sym (base ∙ base_at_slash xs b w.if-byte-eq47.true));
        cut_so_far = w.is_cut-is ∙ sym (cut ∙ cut_at_slash xs b w.if-byte-eq47.true);
      }
      | else-byte-eq47+then-byte-eq46 w ↦ record {
        base_so_far = ap (λ v. v.items) w.base-is ∙ (c.loop-byte.invariant.base_so_far ∙ sym (base ∙ base_at_dot xs b w.if-byte-eq47.false w.if-byte-eq46.true));
        cut_so_far = w.is_cut-is ∙ sym (cut ∙ cut_at_dot xs b w.if-byte-eq47.false w.if-byte-eq46.true);
      }
      | else-byte-eq47+else-byte-eq46+then-not-is_cut+in_ok-push w ↦
          let kept = cut_at_other xs b w.if-byte-eq47.false w.if-byte-eq46.false in
          let uncut : is_cut_in xs ≡ _ = sym c.loop-byte.invariant.cut_so_far ∙ w.if-not-is_cut.true in
          record {
            base_so_far =
                ap (λ v. v.items) w.base-is
                ∙ (w.in_ok-push.ensures.items
                ∙ (ap (λ y. y ++ w.letter_or_underscore.result ∷ []) c.loop-byte.invariant.base_so_far
                ∙ (ap (λ p. base_of xs ++ p ∷ []) w.letter_or_underscore.ensures
                ∙ sym (base ∙ base_at_other xs b w.if-byte-eq47.false w.if-byte-eq46.false uncut))));
            cut_so_far = w.is_cut-is ∙ (c.loop-byte.invariant.cut_so_far ∙ sym (cut ∙ kept));
          }
      | else-byte-eq47+else-byte-eq46+else-not-is_cut w ↦
          let kept = cut_at_other xs b w.if-byte-eq47.false w.if-byte-eq46.false in
          let was_cut = sym c.loop-byte.invariant.cut_so_far ∙ w.if-not-is_cut.false in
          record {
            base_so_far = ap (λ v. v.items) w.base-is ∙ (c.loop-byte.invariant.base_so_far ∙ sym (base ∙ base_when_cut xs b w.if-byte-eq47.false was_cut));
            cut_so_far = w.is_cut-is ∙ (c.loop-byte.invariant.cut_so_far ∙ sym (cut ∙ kept));
          }
    ]
