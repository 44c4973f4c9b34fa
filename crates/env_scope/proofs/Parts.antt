-- The parts of a binding that is put in, and of those that were there.
use Rattle.std.proofs.Common.{◌≡◌, ℕ, Bool, true, false, cond, List, Option, Some, None, refl, sym, ap, ◌∙◌}
use Rattle.std.specs.Str.{bytes_eq}
use Rattle.std.proofs.lemmas.Slice.Eq.{bytes_eq-Decides}
use Rattle.env_arena.specs.declared.node.StrNode.{StrNode, out-StrNode}
use Rattle.env_arena.specs.Spelling.{spelled_str}
use Rattle.env_arena.proofs.Levels.{spelled_str_out}
use Rattle.env_scope.specs.declared.tree.Binding.{Binding}
use Rattle.env_scope.specs.declared.tree.Tree.{Tree}
use Rattle.env_scope.specs.Index.{bound}

new_part : {A : Type 0} (part : Option Binding → Option A) (same : Bool) (b : Binding) (o : Option Binding) (x : A) → part (Some b) ≡ Some x → part (cond same (Some b) o) ≡ cond same (Some x) (part o)
new_part part true b o x e = e
new_part part false b o x e = refl

pub part_new : {A : Type 0} (part : Option Binding → Option A) (word n : List ℕ) (b : Binding) (o : Option Binding) (x : A) → part (Some b) ≡ Some x → part (cond (bytes_eq word n) (Some b) o) ≡ cond (bytes_eq word n) (Some x) (part o)
part_new part word n b o x e = new_part part (bytes_eq word n) b o x e

kept_part : {A : Type 0} (part : Option Binding → Option A) (same : Bool) (b : Binding) (o : Option Binding) → (same ≡ true → part (Some b) ≡ part o) → part (cond same (Some b) o) ≡ part o
kept_part part true b o e = e refl
kept_part part false b o e = refl

pub part_kept : {A : Type 0} (part : Option Binding → Option A) (tree : Tree) (word n : List ℕ) (b : Binding) → part (Some b) ≡ part (bound tree word) → part (cond (bytes_eq word n) (Some b) (bound tree n)) ≡ part (bound tree n)
part_kept part tree word n b e = kept_part part (bytes_eq word n) b (bound tree n) (λ same. e ∙ ap (λ w. part (bound tree w)) ((bytes_eq-Decides word n).0 same))

-- a structure's name is that which it spells
pub str_word : (s : StrNode) (n : List ℕ) (o : Option StrNode) → cond (bytes_eq (out-StrNode s).name.now n) (Some s) o ≡ cond (bytes_eq (spelled_str s).0 n) (Some s) o
str_word s n o = ap (λ w. cond (bytes_eq w n) (Some s) o) (sym (ap (λ p. p.0) (spelled_str_out s)))
