-- Whether the next token is an operator that reaches a floor, by how it binds.
use Rattle.std.proofs.Common.{◌≡◌, ℕ, Bool, true, false, cond, List, [], ◌∷◌, Option, Some, None, refl, sym, ap, ◌∙◌}
use Rattle.std.specs.Prelude.{is_some}
use Rattle.readers.specs.declared.floor.Fixity.{Fixity}
use Rattle.readers.specs.declared.floor.Floor.{Floor}
use Rattle.readers.specs.Reader.{head_is}
use Rattle.readers.specs.Forms.{at_least}
use Rattle.readers.specs.Infix as rows_of
use Rattle.sml_lex.specs.Bytes.{is_letter, first_is}
use Rattle.sml_lex.specs.declared.token.Token.{Token}
use Rattle.sml_lex.specs.declared.token.Kind.{Kind}
use Rattle.sml_lex.specs.declared.token.Kind.TheVariants as kind
use Rattle.sml_fix.specs.Fixities.{Settings}
use Rattle.sml_grammar.specs.Types.{Ident}
use Rattle.sml_grammar.specs.Tokens.{ALPHA, SYMBOL, STAR, listed, is_star, name_class, kind_among, infix_names, infix_vid, parts_of, first_part, ident}
use Rattle.sml_grammar.specs.Pats.{tight, right, top, operand_of, infix_of}
use Rattle.sml_scan.specs.Fixed.{fixity_at, kind_fixity, fixity_next}
use Rattle.sml_parse_pat.specs.Levels as levels

-- what binds so reaches the floor
abbrev pub reached : Floor → Option Fixity → Bool
reached n None = false
reached n (Some f) = rows_of.reaches (λ (v : Fixity). v.tight) (λ (v : Fixity). v.right) n f

-- a name is of one of the three classes of names
named : (v : List ℕ) → listed (name_class v) (ALPHA ∷ SYMBOL ∷ STAR ∷ []) ≡ true
named v = go (first_is is_letter v) (is_star v)
  where
    go : (a b : Bool) → listed (cond a ALPHA (cond b STAR SYMBOL)) (ALPHA ∷ SYMBOL ∷ STAR ∷ []) ≡ true
    go true b = refl
    go false true = refl
    go false false = refl

module _ (fix : Settings) (n : Floor) where
  -- the token is an operator, and its name reaches the floor
  abbrev at_name : Bool → List ℕ → Bool
  at_name b v = cond b (reached n (Some (fixity_at fix v))) false

  single : (v : List ℕ) (b : Bool) → at_name (listed (name_class v) (cond b (ALPHA ∷ SYMBOL ∷ STAR ∷ []) [])) v ≡ reached n (cond b (Some (fixity_at fix v)) None)
  single v true = ap (λ (b : Bool). at_name b v) (named v)
  single v false = refl

  kinds : (d : Bool) (k : Kind) → at_name (kind_among fix infix_names d k) (first_part (parts_of k)) ≡ reached n (kind_fixity fix k)
  kinds d (kind.Word w) = refl
  kinds d (kind.Id []) = refl
  kinds d (kind.Id (v ∷ [])) = single v (is_some (fix v))
  kinds d (kind.Id (v ∷ w ∷ s)) = refl
  kinds d (kind.Tyvar v) = refl
  kinds d (kind.Lit l) = refl
  kinds d kind.End = refl

  seen_as : (b : Bool) (x : Ident) → rows_of.seen_by (tight fix) (right fix) (infix_vid fix) top (at_least 2) operand_of infix_of (rows_of.reaches (tight fix) (right fix) n) (cond b (Some x) None) ≡ at_name b x.1
  seen_as true x = refl
  seen_as false x = refl

  pub taken_is : (o : Option Token) → reached n (fixity_next fix o) ≡ head_is (levels.taken fix n) o
  taken_is None = refl
  taken_is (Some t) = sym (seen_as (kind_among fix infix_names t.decimal t.kind) (ident t) ∙ kinds t.decimal t.kind)
