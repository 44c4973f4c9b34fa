-- Declarations as the code makes them of what it reads, and the directives that they leave.
use Rattle.std.proofs.Common.{◌≡◌, ℕ, suc, true, false, List, [], ◌++◌, ◌+◌, Ok, Err, sym, ap, ◌∙◌, arith}
use Rattle.std.proofs.lemmas.List.{append-nil}
use Rattle.std.specs.Prelude.{OnOk}
use Rattle.tl_text.specs.declared.place.Place.{Place}
use Rattle.readers.specs.declared.code.Code.TheVariants.{Grammar}
use Rattle.readers.specs.declared.fault.ReadError.{ReadError}
use Rattle.readers.specs.Given.{Fails, Gives}
use Rattle.readers.specs.Reader.{first, head_is, Reader, mapped}
use Rattle.readers.proofs.Choice.{remade}
use Rattle.sml_lex.specs.declared.token.Token.{Token}
use Rattle.sml_ast.specs.declared.program.StrBind.{StrBind}
use Rattle.sml_ast.specs.declared.program.StrBind.TheOpen.{StrDec-F}
use Rattle.sml_ast.specs.declared.program.StrDec.{StrDec, roll-StrDec}
use Rattle.sml_ast.specs.declared.program.StrDec.TheVariants as made
use Rattle.sml_grammar.specs.Types.{trees}
use Rattle.sml_grammar.specs.Tokens.{tokens_of}
use Rattle.sml_grammar_exp.specs.Decs.{Changes}
use Rattle.sml_grammar_mod.specs.Strs.{Sb, Sd, strdec_changes, structs_of}
use Rattle.sml_grammar_mod.specs.ReadStrs.{strbinds_read, strdec_goes}
use Rattle.sml_parse_bind.proofs.Steps.{ended_gives, ended_bars, ended_fails}
use Rattle.sml_parse_mod.specs.Levels as levels
use Rattle.sml_parse_mod.specs.Nested.{Read, Moves}
use Rattle.sml_parse_mod.specs.Trees.{strbinds}
use Rattle.sml_parse_mod.proofs.Locals.{structs_changes}
use Rattle.sml_parse_mod.proofs.Scopes.{fails_mapped, mapped_fails, other_gives}

-- ---- bindings of structures

structs_is : (p : Place) (bs : List StrBind) (n : ℕ) → ◌≡◌ {A = Sd} (roll-StrDec (StrDec-F.Structs p bs), suc n) (made.Structs p bs, n + 1)
unfolding Rattle.sml_ast.specs.declared.program.StrBind.TheViews.roll-StrDec denote.Hole.Carrier.roll
structs_is p bs n =
    let node : ℕ → Sd = λ (k : ℕ). (made.Structs p bs, k) in
    let one_more : suc n ≡ n + 1 = omega arith in
    ap node one_more

module _ (cs : Changes) (h : ℕ) (s : List Token) (place : Place) where
  abbrev structs_at : List Sb → Sd
  structs_at x = structs_of (place, x)

  abbrev bindings : Reader Token (List Sb)
  bindings = strbinds_read h false cs

  pub structs_fail : (e : ReadError Token) → Fails e (mapped strbinds bindings s) → Fails e (mapped structs_at (levels.structs cs h) s)
  structs_fail e i = ended_fails structs_at (tokens_of strdec_goes) bindings e s (fails_mapped structs_at bindings s e (mapped_fails strbinds bindings s e i))

  module _ (x : List StrBind × ℕ) (t : List Token) (i : mapped strbinds bindings s ≡ Ok (x, t)) where
    abbrev structs_tree : Sd
    structs_tree = (roll-StrDec (StrDec-F.Structs place x.0), suc x.1)

    structs_made : mapped structs_at bindings s ≡ Ok (structs_tree, t)
    structs_made =
        let a = other_gives strbinds bindings s x t i in
        ap (remade structs_at) a.1 ∙ ap (λ (z : List StrBind × ℕ). Ok ((roll-StrDec (StrDec-F.Structs place z.0), suc z.1), t)) a.2

    pub structs_give : (d : Sd) → d ≡ (made.Structs place x.0, x.1 + 1) → head_is (tokens_of strdec_goes) (first t) ≡ false → mapped structs_at (levels.structs cs h) s ≡ Ok (d, t)
    structs_give d e k = ended_gives structs_at (tokens_of strdec_goes) bindings s (structs_tree, t) structs_made k ∙ ap (λ (y : Sd). Ok (y, t)) (structs_is place x.0 x.1 ∙ sym e)

    pub structs_bar : head_is (tokens_of strdec_goes) (first t) ≡ true → mapped structs_at (levels.structs cs h) s ≡ Err (Grammar, t)
    structs_bar k = ended_bars structs_at (tokens_of strdec_goes) bindings s (structs_tree, t) structs_made k

-- they leave the directives as they were
pub structs_still : (place : Place) (s : List Token) (q : Reader Token (List Sb)) (r : Read (StrDec × ℕ)) (old new : Changes) → Gives (λ x. (x.0, x.1.now)) r (mapped (λ x. structs_of (place, x)) q s) → OnOk r (new ≡ old) → Moves old new r
structs_still place s q (Ok z) old new e same =
    let a = other_gives (λ x. structs_of (place, x)) q s z.0 z.1.now e in
    let none : strdec_changes z.0.0 ≡ [] = ap (λ (y : Sd). strdec_changes y.0) (sym a.2) ∙ structs_changes place (trees a.0) in
    same ∙ (sym (append-nil old) ∙ ap (λ (cs : Changes). old ++ cs) (sym none))
structs_still place s q (Err d) old new e same = tt
