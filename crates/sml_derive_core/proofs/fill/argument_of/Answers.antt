use Rattle.std.proofs.Common.{◌≡◌, ℕ, ◌+◌, ◌<◌, false, List, [], length, get_or, drop, refl, sym, ◌∙◌, add-one, drop-cons, nat_eq}
use Rattle.std.specs.Cmp.Lexicographic.{pointwise}
use Rattle.tl_text.specs.declared.place.Place.{Place}
use Rattle.tl_text.specs.declared.name.Name.{Name}
use Rattle.sml_ast.specs.declared.bare_ty.BareTy.{BareTy}
use Rattle.sml_ast.specs.declared.bare_ty.BareTy.TheVariants as ty
use Rattle.sml_derive_core.specs.Withtype.{argument}
use Rattle.sml_derive_core.proofs.fill.argument_of.Goals as goal

-- a parameter of another name is passed over
argument-step : (vs : List (Place × Name)) (ts : List BareTy) (w : Name) (i : ℕ) (v : Place × Name) (t : BareTy) → i < length vs → i < length ts → v ≡ get_or vs i v → pointwise nat_eq v.1 w ≡ false → argument (drop (i + 1) vs) (drop (i + 1) ts) w ≡ argument (drop i vs) (drop i ts) w
argument-step vs ts w i v t hv ht e ne = rw (add-one, drop-cons vs i v, drop-cons ts i t, ← e, ne) refl

pub loop-i-preserved : goal.loop-i-preserved
loop-i-preserved c =
    argument-step c.args.params.now c.args.args.now c.args.name.now c.loop-i.i c.index-params-i.result
    (ty.TFields c.index-params-i.result.0 []) c.loop-i-test.true c.if-i-args.false c.index-params-i.is
    (sym c.eq.ensures ∙ c.if-eq.false)
    ∙ c.loop-i.invariant
