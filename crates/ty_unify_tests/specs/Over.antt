-- Types over two nodes, as the tests write them.
use Rattle.std.specs.Prelude.{ℕ, ◌==◌, ◌&&◌, ◌||◌, Bool, false}
use Rattle.std.specs.List.{list_all}
use Rattle.tl_text.specs.Pairs.{seconds}
use Rattle.sml_static.specs.declared.ty.Ty.{Ty, fold-Ty}
use Rattle.sml_static.specs.declared.ty.Ty.TheOpen.{Ty-F}

-- one level of `is_over`
abbrev pub over_step : ℕ → ℕ → Ty-F Bool → Bool
over_step a b (Ty-F.Free n) = (n == a) || (n == b)
over_step a b (Ty-F.Bound i) = false
over_step a b (Ty-F.Fields fields) = list_all (λ f. f) (seconds fields)
over_step a b (Ty-F.Arrow s t) = s && t
over_step a b (Ty-F.Con name args) = list_all (λ t. t) args

-- whether a type has no bound variable, and no free one but these
abbrev pub is_over : ℕ → ℕ → Ty → Bool
is_over a b = fold-Ty Bool (over_step a b)
