-- The directives that each form of declaration brings into force.
use Rattle.std.proofs.Common.{◌≡◌, ℕ, Bool, Option, Some, None, map, List, [], ◌∷◌, ◌++◌, Ok, Err, refl, sym, ap, ◌∙◌}
use Rattle.std.proofs.lemmas.List.{append-nil}
use Rattle.tl_text.specs.declared.place.Place.{Place}
use Rattle.readers.specs.Given.{Gives}
use Rattle.readers.specs.Reader.{Reader, mapped}
use Rattle.readers.proofs.Outcome.{ok_of, ok_is}
use Rattle.sml_lex.specs.declared.token.Token.{Token}
use Rattle.sml_fix.specs.declared.fixities.Side.{Side}
use Rattle.sml_ast.specs.declared.pat.Pat.{Pat}
use Rattle.sml_ast.specs.declared.data.DatBind.{DatBind}
use Rattle.sml_ast.specs.declared.exp.Exp.{Exp}
use Rattle.sml_ast.specs.declared.exp.Clause.{Clause}
use Rattle.sml_ast.specs.declared.exp.Dec.{Dec}
use Rattle.sml_ast.specs.declared.exp.Dec.TheVariants as made
use Rattle.sml_ast.specs.declared.exp.AtExp.TheOpen.{Dec-F}
use Rattle.sml_ast.specs.declared.exp.AtExp.TheFolds.{fold-roll-Dec}
use Rattle.sml_grammar.specs.Types.{Ident, LongIdent, trees}
use Rattle.sml_grammar_exp.specs.Binds.{Tb, Xb}
use Rattle.sml_grammar_exp.specs.Exps.{De}
use Rattle.sml_grammar_exp.specs.Decs.{Changes, Data, changes, changes_step, digit_of, side_of, opt_list, data_of, exns_of, opens_of, types_of}
use Rattle.sml_parse_bind.specs.Rows.{TyBind}
use Rattle.sml_parse_exp.specs.Nested.{Read, Moves}
use Rattle.sml_parse_exp.specs.Trees.{all_changes}

-- ---- one level opened

pub fix_says : (r : Bool) (p : Place) (d : Option ℕ) (vs : List Ident) → changes (made.Fix p r d vs) ≡ map (λ v. (v.1, Some (digit_of d, side_of r))) vs
unfolding Rattle.sml_ast.specs.declared.exp.AtExp.TheViews.roll-Dec denote.Hole.Carrier.roll
fix_says r p d vs = fold-roll-Dec (Unit {0}) (Unit {0}) Changes (Unit {0}) (Unit {0}) (λ a. tt) (λ c. tt) changes_step (λ e. tt) (λ r. tt) (Dec-F.Fix p r d vs)

pub nonfix_says : (p : Place) (vs : List Ident) → changes (made.Nonfix p vs) ≡ map (λ v. (v.1, None)) vs
unfolding Rattle.sml_ast.specs.declared.exp.AtExp.TheViews.roll-Dec denote.Hole.Carrier.roll
nonfix_says p vs = fold-roll-Dec (Unit {0}) (Unit {0}) Changes (Unit {0}) (Unit {0}) (λ a. tt) (λ c. tt) changes_step (λ e. tt) (λ r. tt) (Dec-F.Nonfix p vs)

pub local_says : (p : Place) (ds es : List Dec) → changes (made.Local p ds es) ≡ all_changes es
unfolding Rattle.sml_ast.specs.declared.exp.AtExp.TheViews.roll-Dec denote.Hole.Carrier.roll
local_says p ds es = fold-roll-Dec (Unit {0}) (Unit {0}) Changes (Unit {0}) (Unit {0}) (λ a. tt) (λ c. tt) changes_step (λ e. tt) (λ r. tt) (Dec-F.Local p ds es)

pub abs_says : (p : Place) (bs : List DatBind) (ts : List TyBind) (ds : List Dec) → changes (made.Abs p bs ts ds) ≡ all_changes ds
unfolding Rattle.sml_ast.specs.declared.exp.AtExp.TheViews.roll-Dec denote.Hole.Carrier.roll
abs_says p bs ts ds = fold-roll-Dec (Unit {0}) (Unit {0}) Changes (Unit {0}) (Unit {0}) (λ a. tt) (λ c. tt) changes_step (λ e. tt) (λ r. tt) (Dec-F.Abs p bs ts ds)

-- ---- declarations without directives

pub vals_say : (p : Place) (vs : List Ident) (r : Bool) (bs : List (Pat × Exp)) → changes (made.Vals p vs r bs) ≡ []
unfolding Rattle.sml_ast.specs.declared.exp.AtExp.TheViews.roll-Dec denote.Hole.Carrier.roll
vals_say p vs r bs = fold-roll-Dec (Unit {0}) (Unit {0}) Changes (Unit {0}) (Unit {0}) (λ a. tt) (λ c. tt) changes_step (λ e. tt) (λ r. tt) (Dec-F.Vals p vs r bs)

pub funs_say : (p : Place) (vs : List Ident) (cs : List (List Clause)) → changes (made.Funs p vs cs) ≡ []
unfolding Rattle.sml_ast.specs.declared.exp.AtExp.TheViews.roll-Dec denote.Hole.Carrier.roll
funs_say p vs cs = fold-roll-Dec (Unit {0}) (Unit {0}) Changes (Unit {0}) (Unit {0}) (λ a. tt) (λ c. tt) changes_step (λ e. tt) (λ r. tt) (Dec-F.Funs p vs cs)

opens_say : (x : Place × List LongIdent) → changes (opens_of x).0 ≡ []
opens_say x = fold-roll-Dec (Unit {0}) (Unit {0}) Changes (Unit {0}) (Unit {0}) (λ a. tt) (λ c. tt) changes_step (λ e. tt) (λ r. tt) (Dec-F.Opens x.0 x.1)

types_say : (x : Place × List Tb) → changes (types_of x).0 ≡ []
types_say x = fold-roll-Dec (Unit {0}) (Unit {0}) Changes (Unit {0}) (Unit {0}) (λ a. tt) (λ c. tt) changes_step (λ e. tt) (λ r. tt) (Dec-F.Types x.0 (trees x.1))

exns_say : (x : Place × List Xb) → changes (exns_of x).0 ≡ []
exns_say x = fold-roll-Dec (Unit {0}) (Unit {0}) Changes (Unit {0}) (Unit {0}) (λ a. tt) (λ c. tt) changes_step (λ e. tt) (λ r. tt) (Dec-F.Exns x.0 (trees x.1))

data_say : (p : Place) (x : Data) → changes (data_of (p, x)).0 ≡ []
data_say p (Data.Copied x) = fold-roll-Dec (Unit {0}) (Unit {0}) Changes (Unit {0}) (Unit {0}) (λ a. tt) (λ c. tt) changes_step (λ e. tt) (λ r. tt) (Dec-F.Copy p x.0 x.1)
data_say p (Data.Bindings x) = fold-roll-Dec (Unit {0}) (Unit {0}) Changes (Unit {0}) (Unit {0}) (λ a. tt) (λ c. tt) changes_step (λ e. tt) (λ r. tt) (Dec-F.Datas p (x.0.0.0 ∷ trees x.0.1) (trees (opt_list x.1)))

-- ---- what such a declaration leaves in force

pub none_new : (d : Dec) (old new : Changes) → changes d ≡ [] → new ≡ old → new ≡ old ++ changes d
none_new d old new none e = e ∙ (sym (append-nil old) ∙ ap (λ (cs : Changes). old ++ cs) (sym none))

still : {S : Type 0} (f : S → De) (q : Reader Token S) (s : List Token) (r : Read De) (cs : Changes) → ((x : S) → changes (f x).0 ≡ []) → Gives (λ x. (x.0, x.1.now)) r (mapped f q s) → Moves cs cs r
still f q s (Ok z) cs none e =
    let a = ok_of (q s) (λ x. Ok (f x.0, x.1)) (z.0, z.1.now) e in
    let same = ok_is (f a.0.0, a.0.1) (z.0, z.1.now) a.2 in
    none_new z.0.0 cs cs (sym (ap (λ (y : De × List Token). changes y.0.0) same) ∙ none a.0.0) refl
still f q s (Err d) cs none e = tt

module _ (place : Place) (s : List Token) (r : Read De) (cs : Changes) where
  pub opens_still : (q : Reader Token (List LongIdent)) → Gives (λ x. (x.0, x.1.now)) r (mapped (λ x. opens_of (place, x)) q s) → Moves cs cs r
  opens_still q e = still (λ x. opens_of (place, x)) q s r cs (λ x. opens_say (place, x)) e

  pub types_still : (q : Reader Token (List Tb)) → Gives (λ x. (x.0, x.1.now)) r (mapped (λ x. types_of (place, x)) q s) → Moves cs cs r
  types_still q e = still (λ x. types_of (place, x)) q s r cs (λ x. types_say (place, x)) e

  pub exns_still : (q : Reader Token (List Xb)) → Gives (λ x. (x.0, x.1.now)) r (mapped (λ x. exns_of (place, x)) q s) → Moves cs cs r
  exns_still q e = still (λ x. exns_of (place, x)) q s r cs (λ x. exns_say (place, x)) e

  pub data_still : (q : Reader Token Data) → Gives (λ x. (x.0, x.1.now)) r (mapped (λ x. data_of (place, x)) q s) → Moves cs cs r
  data_still q e = still (λ x. data_of (place, x)) q s r cs (λ x. data_say place x) e

-- ---- directives

abbrev given_to : Option (ℕ × Side) → List Ident → Changes
given_to s = map (λ v. (v.1, s))

pub fix_moves : (r : Bool) (p : Place) (d : Option ℕ) (vs ws : List Ident) (old new : Changes) (s : ℕ × Side) → s ≡ (digit_of d, side_of r) → ws ≡ vs → new ≡ old ++ given_to (Some s) ws → new ≡ old ++ changes (made.Fix p r d vs)
fix_moves r p d vs ws old new s e i j =
    j ∙ ap (λ (cs : Changes). old ++ cs) (ap (given_to (Some s)) i ∙ (ap (λ (s : ℕ × Side). given_to (Some s) vs) e ∙ sym (fix_says r p d vs)))

pub nonfix_moves : (p : Place) (vs ws : List Ident) (old new : Changes) → ws ≡ vs → new ≡ old ++ given_to None ws → new ≡ old ++ changes (made.Nonfix p vs)
nonfix_moves p vs ws old new i j = j ∙ ap (λ (cs : Changes). old ++ cs) (ap (given_to None) i ∙ sym (nonfix_says p vs))
