-- What the code makes in parts: rows of patterns and of fields as trees and the height of the highest, and what stands
-- before `as`.
use Rattle.std.specs.Prelude.{ℕ, suc, Bool, List, Option, Some, None, max}
use Rattle.std.specs.Option.{option_map}
use Rattle.readers.specs.Forms.{height_of}
use Rattle.readers.specs.declared.floor.Fixity.{Fixity}
use Rattle.sml_fix.specs.Fixities.{Settings}
use Rattle.sml_ast.specs.declared.ty.Ty.{Ty}
use Rattle.sml_ast.specs.declared.pat.AtPat.{AtPat, out-AtPat, roll-AtPat}
use Rattle.sml_ast.specs.declared.pat.AtPat.TheOpen.{AtPat-F, PField-F}
use Rattle.sml_ast.specs.declared.pat.PField.{PField, roll-PField}
use Rattle.sml_ast.specs.declared.pat.Pat.{Pat, out-Pat}
use Rattle.sml_scan.specs.Rows.{summed}
use Rattle.sml_scan.specs.Fixed.{fixity_at}
use Rattle.sml_grammar.specs.Types.{Ident, Tx}
use Rattle.tl_text.specs.declared.place.Place.{Place}
use Rattle.sml_grammar.specs.Pats.{Pt, Fp, Ap, Bare, bare_id, bare_in, some_bare, top_in, opt_height, opt_tree}

abbrev pub pat_tree : Pt → Pat
pat_tree x = x.0

abbrev pub pats : List Pt → List Pat × ℕ
pats = summed pat_tree height_of

-- the patterns behind the first, where there are some
abbrev pub some_pats : Option (List Pt) → Option (List Pat × ℕ)
some_pats None = None
some_pats (Some qs) = Some (pats qs)

-- what is in parentheses, from its first pattern and those behind it
abbrev pub closed : Place → Pt → Option (List Pat × ℕ) → Ap
closed p x None = (roll-AtPat (AtPat-F.PParen p x.0), suc x.1)
closed p x (Some o) = (roll-AtPat (AtPat-F.PTuple p x.0 o.0), suc (max x.1 o.1))

abbrev pub field_tree : Fp → PField
field_tree x = x.0

abbrev pub fields : List Fp → List PField × ℕ
fields = summed field_tree height_of

-- how the operator at the top binds
abbrev pub top_fixity : Settings → Pat → Option Fixity
top_fixity fix p = option_map (λ v. fixity_at fix v.1) (top_in (out-Pat p))

-- `x : t as p`, `x as p` in a record
abbrev pub typed_field : Ident → Tx → Option Pt → Fp
typed_field x t q = (roll-PField (PField-F.Pun x.0 x (Some t.0) (opt_tree q)), suc (max t.1 (opt_height q)))

abbrev pub layered_field : Ident → Pt → Fp
layered_field x q = (roll-PField (PField-F.Pun x.0 x None (Some q.0)), suc q.1)

-- what stands before `as`
abbrev pub bare_of_atom : Option Ty → AtPat → Option Bare
bare_of_atom t a = bare_id t (out-AtPat a)

abbrev pub bare_of : Pat → Option Bare
bare_of p = bare_in (out-Pat p)

abbrev pub is_bare_atom : AtPat → Bool
is_bare_atom a = some_bare (bare_of_atom None a)
