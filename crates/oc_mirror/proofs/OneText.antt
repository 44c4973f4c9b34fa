-- Bytes are the text of one tree at most.
use Rattle.std.proofs.Common.{◌≡◌, ℕ, ◌+◌, List, [], ap, sym, ◌∙◌, arith}
use Rattle.oc_ast.specs.Plain.{PItems}
use Rattle.oc_rules.specs.Tokens.{items}
use Rattle.oc_rules.specs.Allowed.{Allowed}
use Rattle.oc_rules.specs.Reads.{Reads}
use Rattle.oc_rules.proofs.Lexing.{one_lexing}
use Rattle.oc_mirror.proofs.Marks.{Marks, m_items}
use Rattle.oc_mirror.proofs.Says.{same_marks}
use Rattle.oc_mirror.proofs.Decode.{p_items}
use Rattle.oc_mirror.proofs.StartsExpressions.{s_items}
use Rattle.oc_mirror.proofs.ReadsExpressions.{text_done}

-- lawful trees with the same tokens are one
pub one_tree : (t u : PItems) → Allowed t → Allowed u → items t ≡ items u → t ≡ u
one_tree t u h k e =
    let n = s_items t + s_items u in
    let a : p_items n (m_items t []) ≡ (t, []) = text_done t h n (omega arith) in
    let b : p_items n (m_items u []) ≡ (u, []) = text_done u k n (omega arith) in
    ap (λ (z : PItems × Marks). z.0) (sym a ∙ (ap (p_items n) (same_marks t u e) ∙ b))

-- bytes are the text of one tree at most
pub one_text : (bytes : List ℕ) (t u : PItems) → Reads bytes t → Reads bytes u → t ≡ u
one_text bytes t u h k = one_tree t u h.0 k.0 (one_lexing bytes (items t) (items u) h.1 k.1)
