-- Directives that come into force and leave it again.
use Rattle.std.proofs.Common.{◌≡◌, ℕ, true, false, map, List, [], ◌∷◌, ◌++◌, length, take, drop, Ok, Err, refl, sym, ap, ◌∙◌, append_assoc}
use Rattle.std.proofs.lemmas.List.{append-nil}
use Rattle.readers.specs.Reader.{first, head_is, Answer, Reader, mapped, one, row, with_front}
use Rattle.readers.proofs.Choice.{remade}
use Rattle.readers.proofs.RowLoop.{Shortens, row_more, row_done}
use Rattle.sml_lex.specs.declared.token.Token.{Token}
use Rattle.sml_ast.specs.declared.exp.Dec.{Dec}
use Rattle.sml_scan.proofs.Shorter.{one_shorter}
use Rattle.sml_grammar.specs.Words.{SEMICOLON}
use Rattle.sml_grammar.specs.Tokens.{is}
use Rattle.sml_grammar_exp.specs.ReadDecs.{semis_read}
use Rattle.sml_parse_exp.specs.Levels as levels
use Rattle.sml_grammar_exp.specs.Exps.{De}
use Rattle.sml_grammar_exp.specs.Decs.{Changes, changes, afters, after}
use Rattle.sml_parse_exp.specs.Trees.{dec_tree, all_changes}

-- the directives behind a row of declarations
pub afters_are : (cs : Changes) (ds : List De) → afters cs ds ≡ cs ++ all_changes (map dec_tree ds)
afters_are cs [] = sym (append-nil cs)
afters_are cs (d ∷ ds) = afters_are (after cs d) ds ∙ append_assoc cs (changes d.0) (all_changes (map dec_tree ds))

-- one more declaration
pub all_more : (ds : List Dec) (d : Dec) → all_changes (ds ++ d ∷ []) ≡ all_changes ds ++ changes d
all_more [] d = append-nil (changes d)
all_more (c ∷ ds) d = ap (λ (z : Changes). changes c ++ z) (all_more ds d) ∙ sym (append_assoc (changes c) (all_changes ds) (changes d))

pub taken_front : {T : Type 0} (xs ys : List T) → take (length xs) (xs ++ ys) ≡ xs
taken_front [] ys = refl
taken_front (x ∷ xs) ys = ap (λ (z : List _). x ∷ z) (taken_front xs ys)

pub dropped_front : {T : Type 0} (xs ys : List T) → drop (length xs) (xs ++ ys) ≡ ys
dropped_front [] ys = refl
dropped_front (x ∷ xs) ys = dropped_front xs ys

-- ---- semicolons

abbrev semi : Reader Token (Unit {0})
semi = one (is SEMICOLON)

pub semi_less : Shortens semi
semi_less = one_shorter (is SEMICOLON)

pub semis_turn : (s r : List Token) → head_is (is SEMICOLON) (first s) ≡ true → semi s ≡ Ok (tt, r) → mapped levels.no_tree semis_read s ≡ mapped levels.no_tree semis_read r
semis_turn s r h e = ap (remade levels.no_tree) (row_more (is SEMICOLON) semi semi_less s (tt, r) h e) ∙ go (row (is SEMICOLON) semi r)
  where
    go : (x : Answer Token (List (Unit {0}))) → remade levels.no_tree (with_front (tt ∷ []) x) ≡ remade levels.no_tree x
    go (Ok y) = refl
    go (Err d) = refl

pub semis_end : (s : List Token) → head_is (is SEMICOLON) (first s) ≡ false → mapped levels.no_tree semis_read s ≡ Ok (tt, s)
semis_end s h = ap (remade levels.no_tree) (row_done (is SEMICOLON) semi semi_less s h)
