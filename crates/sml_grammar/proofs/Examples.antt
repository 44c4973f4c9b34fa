-- What the definitions say of some tokens.
use Rattle.std.proofs.Common.{◌≡◌, ℕ, [], ◌∷◌, List, Ok, Err, refl}
use Rattle.std.specs.Prelude.{codes}
use Rattle.readers.specs.declared.code.Code.TheVariants.{Grammar, Depth}
use Rattle.readers.specs.Reader.{steps_by, row_by}
use Rattle.tl_text.specs.declared.place.Place.{Place}
use Rattle.sml_lex.specs.declared.token.Token.{Token}
use Rattle.sml_lex.specs.declared.token.Kind.TheVariants as kind
use Rattle.sml_grammar.specs.Words.{ARROW}
use Rattle.sml_grammar.specs.Types.{LongIdent, con_of, applied, tupled, mapped_to}
use Rattle.sml_grammar.specs.ReadTypes.{con_read, tuple_read, ty_read}
use Rattle.sml_grammar.proofs.Shapes.{nowhere, some_token, word_token, star_token}

-- `a`, `b` and `c`
abbrev name : List ℕ → Token
name v = some_token (kind.Id (v ∷ []))

abbrev long : List ℕ → LongIdent
long v = (nowhere, v ∷ [])

-- `a b c`
applied_twice : ty_read 9 (name (codes "a") ∷ name (codes "b") ∷ name (codes "c") ∷ []) ≡ Ok (applied (applied (con_of (long (codes "a"))) (long (codes "b"))) (long (codes "c")), [])
unfolding con_read tuple_read ty_read steps_by row_by
applied_twice = refl

-- `a * b -> c`
tuple_to : ty_read 9 (name (codes "a") ∷ star_token ∷ name (codes "b") ∷ word_token ARROW ∷ name (codes "c") ∷ [])
    ≡ Ok (mapped_to (tupled (con_of (long (codes "a"))) (con_of (long (codes "b")) ∷ [])) (con_of (long (codes "c"))), [])
unfolding con_read tuple_read ty_read steps_by row_by
tuple_to = refl

-- `a -> b -> c`
to_the_right : ty_read 9 (name (codes "a") ∷ word_token ARROW ∷ name (codes "b") ∷ word_token ARROW ∷ name (codes "c") ∷ [])
    ≡ Ok (mapped_to (con_of (long (codes "a"))) (mapped_to (con_of (long (codes "b"))) (con_of (long (codes "c")))), [])
unfolding con_read tuple_read ty_read steps_by row_by
to_the_right = refl

-- `a b c`, where types have a height of two at most
too_high : ty_read 2 (name (codes "a") ∷ name (codes "b") ∷ name (codes "c") ∷ []) ≡ Err (Depth, name (codes "c") ∷ [])
unfolding con_read tuple_read ty_read steps_by row_by
too_high = refl

-- `a * -> b`
no_part : ty_read 9 (name (codes "a") ∷ star_token ∷ word_token ARROW ∷ name (codes "b") ∷ []) ≡ Err (Grammar, word_token ARROW ∷ name (codes "b") ∷ [])
unfolding con_read tuple_read ty_read steps_by row_by
no_part = refl
