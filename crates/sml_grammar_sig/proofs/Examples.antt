-- What the definitions say of some tokens.
use Rattle.std.proofs.Common.{◌≡◌, ℕ, true, [], ◌∷◌, List, Ok, Err, None, refl}
use Rattle.std.specs.Prelude.{codes}
use Rattle.readers.specs.declared.code.Code.TheVariants.{Grammar, Depth}
use Rattle.readers.specs.Reader.{steps_by, row_by}
use Rattle.tl_text.specs.declared.place.Place.{Place}
use Rattle.sml_ast.specs.declared.sig.SigExp.{out-SigExp, roll-SigExp}
use Rattle.sml_ast.specs.declared.sig.Spec.{out-Spec, roll-Spec}
use Rattle.sml_lex.specs.declared.token.Token.{Token}
use Rattle.sml_lex.specs.declared.token.Kind.TheVariants as kind
use Rattle.sml_grammar.specs.Words.{AND, COLON, DATATYPE, END, EQTYPE, EQUALS, INCLUDE, SEMICOLON, SHARING, SIG, STRUCTURE, TYPE, WHERE}
use Rattle.sml_grammar.specs.Types.{Ident, LongIdent, con_of}
use Rattle.sml_grammar.specs.ReadTypes.{con_read, tuple_read, ty_read}
use Rattle.sml_grammar.proofs.Shapes.{nowhere, some_token, word_token}
use Rattle.sml_grammar_sig.specs.Descs.{Re, real_bind_of}
use Rattle.sml_grammar_sig.specs.Sigs.{sig_at, real_of, specs_of, eqtypes_of, copy_of, strs_of, incls_of}
use Rattle.sml_grammar_sig.specs.ReadDescs.{cons_read, real_bind_read}
use Rattle.sml_grammar_sig.specs.ReadSigs.{sig_read, body_read, head_read, spec_read}

abbrev name : List ℕ → Token
name v = some_token (kind.Id (v ∷ []))

abbrev ident : List ℕ → Ident
ident v = (nowhere, v)

abbrev long : List ℕ → LongIdent
long v = (nowhere, v ∷ [])

-- a `where`, and its place
abbrev there : Place
there = record { source = 0; line = 3; col = 5; byte = 40 }

abbrev where_token : Token
where_token = record { kind = kind.Word WHERE; place = there; len = 5; decimal = true }

-- `t = u` behind `where type`
abbrev bind : List ℕ → List ℕ → Re
bind t u = real_bind_of (None, (long t, con_of (long u)))

-- `sig ; eqtype t ; ; eqtype u end`
semicolons : sig_read 9 (word_token SIG ∷ word_token SEMICOLON ∷ word_token EQTYPE ∷ name (codes "t") ∷ word_token SEMICOLON ∷ word_token SEMICOLON ∷ word_token EQTYPE ∷ name (codes "u") ∷ word_token END ∷ [])
    ≡ Ok (specs_of (nowhere, eqtypes_of (nowhere, ([], ident (codes "t")) ∷ []) ∷ eqtypes_of (nowhere, ([], ident (codes "u")) ∷ []) ∷ []), [])
unfolding body_read head_read spec_read cons_read real_bind_read con_read tuple_read ty_read steps_by row_by out-SigExp roll-SigExp out-Spec roll-Spec denote.Hole.Carrier.out denote.Hole.Carrier.roll
semicolons = refl

-- `S where type t = u and type v = w`: two `where`, each with the place of the one word
two_types : sig_read 9 (name (codes "S") ∷ where_token ∷ word_token TYPE ∷ name (codes "t") ∷ word_token EQUALS ∷ name (codes "u") ∷ word_token AND ∷ word_token TYPE ∷ name (codes "v") ∷ word_token EQUALS ∷ name (codes "w") ∷ [])
    ≡ Ok (real_of (real_of (sig_at (ident (codes "S"))) (there, bind (codes "t") (codes "u"))) (there, bind (codes "v") (codes "w")), [])
unfolding body_read head_read spec_read cons_read real_bind_read con_read tuple_read ty_read steps_by row_by out-SigExp roll-SigExp out-Spec roll-Spec denote.Hole.Carrier.out denote.Hole.Carrier.roll
two_types = refl

-- `S and type t = u`: behind an identifier no `and` goes on
no_where : sig_read 9 (name (codes "S") ∷ word_token AND ∷ word_token TYPE ∷ name (codes "t") ∷ word_token EQUALS ∷ name (codes "u") ∷ [])
    ≡ Err (Grammar, word_token AND ∷ word_token TYPE ∷ name (codes "t") ∷ word_token EQUALS ∷ name (codes "u") ∷ [])
unfolding body_read head_read spec_read cons_read real_bind_read con_read tuple_read ty_read steps_by row_by out-SigExp roll-SigExp out-Spec roll-Spec denote.Hole.Carrier.out denote.Hole.Carrier.roll
no_where = refl

-- `sig structure A : S where type t = u and type v = w and B : T end`: behind `and` the next token decides
next_structure : sig_read 9 (word_token SIG ∷ word_token STRUCTURE ∷ name (codes "A") ∷ word_token COLON ∷ name (codes "S") ∷ where_token ∷ word_token TYPE ∷ name (codes "t") ∷ word_token EQUALS ∷ name (codes "u") ∷ word_token AND ∷ word_token TYPE ∷ name (codes "v") ∷ word_token EQUALS ∷ name (codes "w") ∷ word_token AND ∷ name (codes "B") ∷ word_token COLON ∷ name (codes "T") ∷ word_token END ∷ [])
    ≡ Ok (specs_of (nowhere, strs_of (nowhere, (ident (codes "A"), real_of (real_of (sig_at (ident (codes "S"))) (there, bind (codes "t") (codes "u"))) (there, bind (codes "v") (codes "w"))) ∷ (ident (codes "B"), sig_at (ident (codes "T"))) ∷ []) ∷ []), [])
unfolding body_read head_read spec_read cons_read real_bind_read con_read tuple_read ty_read steps_by row_by out-SigExp roll-SigExp out-Spec roll-Spec denote.Hole.Carrier.out denote.Hole.Carrier.roll
next_structure = refl

-- `sig type t and u = v end`: none has a right side, or all
not_mixed : sig_read 9 (word_token SIG ∷ word_token TYPE ∷ name (codes "t") ∷ word_token AND ∷ name (codes "u") ∷ word_token EQUALS ∷ name (codes "v") ∷ word_token END ∷ [])
    ≡ Err (Grammar, word_token EQUALS ∷ name (codes "v") ∷ word_token END ∷ [])
unfolding body_read head_read spec_read cons_read real_bind_read con_read tuple_read ty_read steps_by row_by out-SigExp roll-SigExp out-Spec roll-Spec denote.Hole.Carrier.out denote.Hole.Carrier.roll
not_mixed = refl

-- `sig datatype t = datatype u end`: another datatype, and no constructors
copied : sig_read 9 (word_token SIG ∷ word_token DATATYPE ∷ name (codes "t") ∷ word_token EQUALS ∷ word_token DATATYPE ∷ name (codes "u") ∷ word_token END ∷ [])
    ≡ Ok (specs_of (nowhere, copy_of (nowhere, (ident (codes "t"), long (codes "u"))) ∷ []), [])
unfolding body_read head_read spec_read cons_read real_bind_read con_read tuple_read ty_read steps_by row_by out-SigExp roll-SigExp out-Spec roll-Spec denote.Hole.Carrier.out denote.Hole.Carrier.roll
copied = refl

-- `sig sharing A end`: at least two parts are shared
two_parts : sig_read 9 (word_token SIG ∷ word_token SHARING ∷ name (codes "A") ∷ word_token END ∷ [])
    ≡ Err (Grammar, word_token END ∷ [])
unfolding body_read head_read spec_read cons_read real_bind_read con_read tuple_read ty_read steps_by row_by out-SigExp roll-SigExp out-Spec roll-Spec denote.Hole.Carrier.out denote.Hole.Carrier.roll
two_parts = refl

-- `sig include A B end`: several identifiers take no room
several : sig_read 2 (word_token SIG ∷ word_token INCLUDE ∷ name (codes "A") ∷ name (codes "B") ∷ word_token END ∷ [])
    ≡ Ok (specs_of (nowhere, incls_of (nowhere, (ident (codes "A"), ident (codes "B") ∷ [])) ∷ []), [])
unfolding body_read head_read spec_read cons_read real_bind_read con_read tuple_read ty_read steps_by row_by out-SigExp roll-SigExp out-Spec roll-Spec denote.Hole.Carrier.out denote.Hole.Carrier.roll
several = refl

-- `sig include A where type t = u end`: there is no room for a signature behind `include`
too_high : sig_read 2 (word_token SIG ∷ word_token INCLUDE ∷ name (codes "A") ∷ where_token ∷ word_token TYPE ∷ name (codes "t") ∷ word_token EQUALS ∷ name (codes "u") ∷ word_token END ∷ [])
    ≡ Err (Depth, where_token ∷ word_token TYPE ∷ name (codes "t") ∷ word_token EQUALS ∷ name (codes "u") ∷ word_token END ∷ [])
unfolding body_read head_read spec_read cons_read real_bind_read con_read tuple_read ty_read steps_by row_by out-SigExp roll-SigExp out-Spec roll-Spec denote.Hole.Carrier.out denote.Hole.Carrier.roll
too_high = refl
