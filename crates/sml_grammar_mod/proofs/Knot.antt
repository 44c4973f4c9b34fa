-- Structure expressions, bindings and declarations at structure level of all heights are read exactly.
use Rattle.std.proofs.Common.{◌≡◌, ℕ, Bool, true, false, List, [], ◌∷◌, None, refl}
use Rattle.readers.proofs.Bundle.{Known}
use Rattle.readers.proofs.Grow.{two_are}
use Rattle.readers.proofs.Levels.{Knot, Tower, all_of, lifted, lowest_sizes, lowest_readings, lowest_refusals}
use Rattle.sml_ast.specs.declared.program.StrBind.{StrBind}
use Rattle.sml_ast.specs.declared.program.StrBind.TheOpen.{StrExp-F}
use Rattle.sml_ast.specs.declared.program.StrDec.{StrDec}
use Rattle.sml_ast.specs.declared.program.StrExp.{StrExp, out-StrExp}
use Rattle.sml_grammar_exp.specs.Decs.{Changes}
use Rattle.sml_grammar_mod.specs.Strs.{St, strdec_on, StrDecR}
use Rattle.sml_grammar_mod.specs.ReadStrs.{begins_strdec, strdec_read}
use Rattle.sml_grammar_mod.proofs.Grows.{real_bar, short_bar, str_bar, ascribe_real, str_stop}
use Rattle.sml_grammar_mod.proofs.Strs.{BaseP, StrP, str_now}
use Rattle.sml_grammar_mod.proofs.Rows.{StrBindsP, strbinds_now, strbinds_knot, FunBindsP, funbinds_exact as functors_exact}
use Rattle.sml_grammar_mod.proofs.Decs.{strdec_in, StrDecP}
use Rattle.sml_grammar_mod.proofs.Bases.{base_now, base_knot}
use Rattle.sml_grammar_mod.proofs.Locals.{StrDecD}
use Rattle.sml_grammar_mod.proofs.StrDecs.{strdec_by, strdec_now}

strdec_knot : (cs : Changes) → Knot (StrDecR cs) (StrDecD cs) (λ k. strdec_in k cs) (strdec_by cs) begins_strdec
unfolding strdec_on strdec_read
strdec_knot cs = record { none = λ b t w d. d; out = λ h b t w d. d; into = λ h b t w d. d; empty = λ b v. refl; next = λ h b v. refl }

-- what is known of all phrases up to a height, under all fixities
pub record All (s : Known) (n : ℕ) : Type 0 where
  pub base : (cs : Changes) → BaseP cs s n
  pub binds : (cs : Changes) → StrBindsP cs s n
  pub decs : (cs : Changes) → StrDecP cs s n

tower : Tower All
tower = record {
  sizes = record {
    base = λ cs. lowest_sizes (base_knot cs);
    binds = λ cs. lowest_sizes (strbinds_knot cs);
    decs = λ cs. lowest_sizes (strdec_knot cs);
  };
  readings = λ f. record {
    base = λ cs. lowest_readings (base_knot cs) (λ m. let a = f m in a.base cs);
    binds = λ cs. lowest_readings (strbinds_knot cs) (λ m. let a = f m in a.binds cs);
    decs = λ cs. lowest_readings (strdec_knot cs) (λ m. let a = f m in a.decs cs);
  };
  refusals = λ f. record {
    base = λ cs. lowest_refusals (base_knot cs) (λ m. let a = f m in a.base cs);
    binds = λ cs. lowest_refusals (strbinds_knot cs) (λ m. let a = f m in a.binds cs);
    decs = λ cs. lowest_refusals (strdec_knot cs) (λ m. let a = f m in a.decs cs);
  };
  next = λ s n a. record {
    base = λ cs. lifted (base_knot cs) (base_now cs a.decs (λ c. str_now c (a.base c)));
    binds = λ cs. lifted (strbinds_knot cs) (strbinds_now cs (a.base cs));
    decs = λ cs. lifted (strdec_knot cs) (strdec_now cs a.decs (a.binds cs));
  };
}

every : (s : Known) (n : ℕ) → All s n
every = all_of All tower

-- structure expressions without ascription
pub base_exact : (cs : Changes) (s : Known) (n : ℕ) → BaseP cs s n
base_exact cs s n = let a = every s n in a.base cs

-- structure expressions
pub str_exact : (cs : Changes) (s : Known) (n : ℕ) → StrP cs s n
str_exact cs s n = str_now cs (base_exact cs s n)

bar_ends : (x : StrExp-F StrBind StrDec StrExp) → str_bar x None ≡ true
bar_ends (StrExp-F.Body p ds) = refl
bar_ends (StrExp-F.At p x) = go x.1
  where
    go : (v : List (List ℕ)) → short_bar v None ≡ true
    go [] = refl
    go (v ∷ []) = refl
    go (v ∷ w ∷ p) = refl
bar_ends (StrExp-F.Seal p s a) = go (ascribe_real a)
  where
    go : (r : Bool) → real_bar r None ≡ true
    go true = refl
    go false = refl
bar_ends (StrExp-F.Call p f s) = refl
bar_ends (StrExp-F.CallBody p f ds) = refl
bar_ends (StrExp-F.LetStr p ds s) = refl

-- at the end of the tokens nothing goes on
pub str_finish : (t : St) → str_stop t None ≡ true
str_finish t = two_are _ _ (bar_ends (out-StrExp t.0)) refl

-- declarations at structure level
pub strdec_exact : (cs : Changes) (s : Known) (n : ℕ) → StrDecP cs s n
strdec_exact cs s n = let a = every s n in a.decs cs

-- rows of bindings of functors
pub funbinds_exact : (cs : Changes) (s : Known) (n : ℕ) → FunBindsP cs s n
funbinds_exact cs = functors_exact cs (base_exact cs)
