-- Sets of tokens by the classes that they list, and what tokens of a set show.
use Rattle.std.proofs.Common.{◌≡◌, ℕ, Bool, true, false, cond, List, [], ◌∷◌, Option, Some, None, Ok, Err, refl, sym, ap, ◌∙◌}
use Rattle.readers.specs.declared.code.Code.TheVariants.{Grammar}
use Rattle.readers.specs.Reader.{first, head_is, Answer, token_by, seen}
use Rattle.readers.specs.Forms.{shown}
use Rattle.sml_lex.specs.declared.token.Token.{Token}
use Rattle.sml_lex.specs.declared.token.Kind.{Kind}
use Rattle.sml_lex.specs.declared.token.Kind.TheVariants as kind
use Rattle.sml_grammar.specs.Tokens.{Firsts, firsts, listed, path_class, is_infix, plain_fix, kind_among, tokens_of}
use Rattle.sml_scan.specs.Classes.{WORD, class_in, class_of}

no_infix : (parts : List (List ℕ)) → is_infix plain_fix parts ≡ false
no_infix [] = refl
no_infix (v ∷ []) = refl
no_infix (v ∷ w ∷ s) = refl

kinds : (cs ds : List ℕ) (d : Bool) (k : Kind) → listed WORD cs ≡ false → kind_among plain_fix (firsts [] cs ds) d k ≡ listed (class_in d k) cs
kinds cs ds d (kind.Word n) e = sym e
kinds cs ds d (kind.Id parts) e = ap (λ (b : Bool). listed (path_class parts) (cond b ds cs)) (no_infix parts)
kinds cs ds d (kind.Tyvar v) e = refl
kinds cs ds d (kind.Lit l) e = refl
kinds cs ds d kind.End e = refl

-- a set without words is the classes that it lists
pub set_is : (cs ds : List ℕ) → listed WORD cs ≡ false → (o : Option Token) → head_is (λ t. listed (class_of t) cs) o ≡ head_is (tokens_of (firsts [] cs ds)) o
set_is cs ds e None = refl
set_is cs ds e (Some t) = sym (kinds cs ds t.decimal t.kind e)

-- what a token of the set shows
pub shows : {K A : Type 0} (test : K → Bool) (f : K → A) (c : K) (s : List K) → head_is test (first (c ∷ s)) ≡ true → token_by (shown test f) (c ∷ s) ≡ Ok (f c, s)
shows test f c s e = rw e refl

pub shows_none : {K A : Type 0} (test : K → Bool) (f : K → A) (s : List K) → head_is test (first s) ≡ false → token_by (shown test f) s ≡ Err (Grammar, s)
shows_none test f [] e = refl
shows_none test f (c ∷ s) e = rw e refl
