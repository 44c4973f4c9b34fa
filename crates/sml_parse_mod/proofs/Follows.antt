-- What is done, with what was read behind it: what a reader gives, with the same before it.
use Rattle.std.proofs.Common.{◌≡◌, List, Option, Some, Ok, Err, sym, ap, ◌∙◌}
use Rattle.std.specs.Prelude.{OnOk}
use Rattle.readers.specs.Given.{Gives}
use Rattle.readers.specs.Reader.{Reader, mapped}
use Rattle.readers.proofs.Choice.{remade}
use Rattle.sml_lex.specs.declared.token.Token.{Token}
use Rattle.sml_parse_mod.specs.Follows.{after}
use Rattle.sml_parse_mod.specs.Nested.{Read}
use Rattle.sml_parse_mod.proofs.Scopes.{fails_mapped}

module _ {S N M : Type 0} (view : N → M) (p : Reader Token M) (s : List Token) (done made : S) (same : done ≡ made) where
  abbrev with_done : M → Option S × M
  with_done y = (Some made, y)

  pub after_gives : (r : Read N) → Gives (λ x. (view x.0, x.1.now)) r (p s) → Gives (λ x. ((x.0.0, view x.0.1), x.1.now)) (after done r) (mapped with_done p s)
  after_gives (Ok x) g = ap (remade with_done) g ∙ ap (λ (k : S). Ok ((Some k, view x.0), x.1.now)) (sym same)
  after_gives (Err e) g = fails_mapped with_done p s e g

  -- what holds where something is read holds then, too
  pub after_still : (P : Type 0) (r : Read N) → Gives (λ x. (view x.0, x.1.now)) r (p s) → OnOk r P → OnOk (after done r) P
  after_still P (Ok x) g k = k
  after_still P (Err e) g k = k
