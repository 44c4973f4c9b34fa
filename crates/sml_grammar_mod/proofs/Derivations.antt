-- Some derivations: that there are trees, at the heights that they need.
use Rattle.std.proofs.Common.{ℕ, Bool, false, [], ◌∷◌, List, None, refl, inl, inr}
use Rattle.std.specs.Prelude.{codes}
use Rattle.sml_lex.specs.declared.token.Token.{Token}
use Rattle.sml_lex.specs.declared.token.Kind.TheVariants as kind
use Rattle.sml_grammar.specs.Words.{COLON, EQUALS, STRUCTURE}
use Rattle.sml_grammar.specs.Types.{Ident}
use Rattle.sml_grammar.proofs.Shapes.{nowhere, some_token, word_token}
use Rattle.sml_grammar_sig.specs.Sigs.{Sx, sig_on, sig_at}
use Rattle.sml_grammar_mod.specs.Strs.{St, ascribe_on, at_of, clear_of, seal_of, strbind_of, structs_of, str_on, strbind_on, strdec_on}
use Rattle.sml_grammar_mod.specs.Programs.{Parses, program_of, program_on}

abbrev name : List ℕ → Token
name v = some_token (kind.Id (v ∷ []))

abbrev ident : List ℕ → Ident
ident v = (nowhere, v)

abbrev end_token : Token
end_token = some_token kind.End

abbrev at : List ℕ → St
at v = at_of (nowhere, v ∷ [])

abbrev sig : List ℕ → Sx
sig v = sig_at (ident v)

-- a source without tokens
nothing : Parses 1 (end_token ∷ []) [] (program_of ([], ([], nowhere))) []
unfolding program_on
nothing = (
  (
    ([], ([], nowhere)),
    refl,
    record {
      front = [];
      back = end_token ∷ [];
      left = refl;
      right = record { front = []; back = end_token ∷ []; left = refl; right = record { token = end_token; shows = refl; whole = refl }; whole = refl };
      whole = refl;
    },
  ),
  refl,
)

-- `A`
structure_at : (b : Bool) → str_on 1 b [] (at (codes "A")) (name (codes "A") ∷ [])
unfolding str_on
structure_at b = inl (inr (inl ((nowhere, codes "A" ∷ []), refl, record { token = name (codes "A"); shows = refl; whole = refl })))

-- `: G`
ascription : ascribe_on 2 (clear_of (nowhere, sig (codes "G"))) (word_token COLON ∷ name (codes "G") ∷ [])
unfolding ascribe_on sig_on
ascription = inl (
  (nowhere, sig (codes "G")),
  refl,
  record {
    front = word_token COLON ∷ [];
    back = name (codes "G") ∷ [];
    left = record { token = word_token COLON; shows = refl; whole = refl };
    right = inl (inr (ident (codes "G"), refl, record { token = name (codes "G"); shows = refl; whole = refl }));
    whole = refl;
  },
)

-- `A : G`
sealed : str_on 3 false [] (seal_of (at (codes "A"), clear_of (nowhere, sig (codes "G")))) (name (codes "A") ∷ word_token COLON ∷ name (codes "G") ∷ [])
unfolding str_on
sealed = inr (
  (at (codes "A"), clear_of (nowhere, sig (codes "G"))),
  refl,
  (
    refl,
    record {
      front = name (codes "A") ∷ [];
      back = word_token COLON ∷ name (codes "G") ∷ [];
      left = inl (inr (inl ((nowhere, codes "A" ∷ []), refl, record { token = name (codes "A"); shows = refl; whole = refl })));
      right = ascription;
      whole = refl;
    },
  ),
)

-- `structure S = A` has a height of three
structure_bound : strdec_on 3 false [] (structs_of (nowhere, strbind_of ((ident (codes "S"), None), at (codes "A")) ∷ [])) (word_token STRUCTURE ∷ name (codes "S") ∷ word_token EQUALS ∷ name (codes "A") ∷ [])
unfolding strdec_on strbind_on
structure_bound = inr (
    inl (
      (nowhere, strbind_of ((ident (codes "S"), None), at (codes "A")) ∷ []),
      refl,
      record {
        front = word_token STRUCTURE ∷ [];
        back = name (codes "S") ∷ word_token EQUALS ∷ name (codes "A") ∷ [];
        left = record { token = word_token STRUCTURE; shows = refl; whole = refl };
        right = (
          (strbind_of ((ident (codes "S"), None), at (codes "A")), []),
          refl,
          record {
            front = name (codes "S") ∷ word_token EQUALS ∷ name (codes "A") ∷ [];
            back = [];
            left = (
              ((ident (codes "S"), None), at (codes "A")),
              refl,
              record {
                front = name (codes "S") ∷ [];
                back = word_token EQUALS ∷ name (codes "A") ∷ [];
                left = record {
                  front = name (codes "S") ∷ [];
                  back = [];
                  left = record { token = name (codes "S"); shows = refl; whole = refl };
                  right = inr (refl, refl);
                  whole = refl;
                };
                right = record {
                  front = word_token EQUALS ∷ [];
                  back = name (codes "A") ∷ [];
                  left = record { token = word_token EQUALS; fits = refl; whole = refl };
                  right = structure_at false;
                  whole = refl;
                };
                whole = refl;
              },
            );
            right = refl;
            whole = refl;
          },
        );
        whole = refl;
      },
    )
    )
