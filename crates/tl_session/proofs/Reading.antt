-- Texts one after another read as one.
use Rattle.std.proofs.Common.{◌≡◌, ℕ, List, ◌++◌, refl, ap, sym, subst, ◌∙◌, append_assoc}
use Rattle.oc_ast.specs.Plain.{PItems, NoItems, MoreItems}
use Rattle.oc_rules.specs.Allowed.{Allowed}
use Rattle.oc_rules.specs.Lexes.{Lexes}
use Rattle.oc_rules.specs.Reads.{Reads}
use Rattle.oc_rules.specs.Tokens.{Tokens, item, items}
use Rattle.oc_layout.specs.Layout.{Layout}
use Rattle.oc_layout.proofs.Trees.{layout_before}
use Rattle.tl_session.specs.Written.{join}

allowed_join : (a b : PItems) → Allowed a → Allowed b → Allowed (join a b)
allowed_join NoItems b h k = k
allowed_join (MoreItems i rest) b h k = (h.0, allowed_join rest b h.1 k)

tokens_join : (a b : PItems) → items (join a b) ≡ items a ++ items b
tokens_join NoItems b = refl
tokens_join (MoreItems i rest) b = ap (λ x. item i ++ x) (tokens_join rest b) ∙ sym (append_assoc (item i) (items rest) (items b))

-- the layout of a text and then bytes that read as a row read as the joined row
pub reads_joined : (a b : PItems) (bytes : List ℕ) → Allowed a → Reads bytes b → Reads (Layout a ++ bytes) (join a b)
reads_joined a b bytes h r = (
  allowed_join a b h r.0,
  subst (λ (z : Tokens). Lexes (Layout a ++ bytes) z) (sym (tokens_join a b)) (layout_before a h bytes (items b) r.1),
)
