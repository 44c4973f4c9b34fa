-- Structure expressions, declarations and programs under directives that leave the same fixities.
use Rattle.std.proofs.Common.{◌≡◌, ℕ, zero, suc, Bool, List, [], ◌∷◌, refl, subst}
use Rattle.readers.specs.Language.{Both, As, Row, Shows}
use Rattle.readers.specs.declared.code.Code.{Code}
use Rattle.readers.specs.Room.{Room}
use Rattle.sml_grammar.specs.Promise.{Refusal}
use Rattle.sml_lex.specs.declared.token.Token.{Token}
use Rattle.sml_ast.specs.declared.program.Top.{Top}
use Rattle.sml_ast.specs.declared.program.Program.{Program}
use Rattle.sml_ast.specs.declared.program.Program.TheVariants as programs
use Rattle.sml_grammar.specs.Words.{SEMICOLON}
use Rattle.sml_grammar.specs.Tokens.{the}
use Rattle.sml_grammar_sig.specs.Sigs.{sig_on, spec_on}
use Rattle.sml_grammar_exp.specs.Decs.{Changes, SemisD}
use Rattle.sml_grammar_mod.specs.Strs.{St, Sd, str_after, str_afters, strdec_changes, strdecs_alone, strdecs_form, StrItemD, base_form, str_form, StrBindD, strdec_form, FunBindD, ascribe_on, str_on, strbind_on, strdec_on, sigbind_on, funbind_on}
use Rattle.sml_grammar_mod.specs.Programs.{Item, Site, Before, Pr, after_item, left_by, left_by_tops, top_changes, HereD, program_of, ProgramR, TopD, RunD, TopItemD, the_end, top_on, run_on, program_on}
use Rattle.sml_grammar_fix.proofs.Rows.{Alike, alike_more, steps_same}
use Rattle.sml_grammar_fix.proofs.Cores.{ByFixities, core_levels}

str_afters_alike : (us : List Sd) (cs ds : Changes) → Alike cs ds → Alike (str_afters cs us) (str_afters ds us)
str_afters_alike [] cs ds e = e
str_afters_alike (u ∷ us) cs ds e = str_afters_alike us (str_after cs u) (str_after ds u) (alike_more cs ds (strdec_changes u.0) e)

strdecs_same : (D : Changes → Sd → List Token → Type 0) → ByFixities D → ByFixities (strdecs_form D)
strdecs_same D same cs ds e = λ i. As strdecs_alone (Both SemisD (steps_same Alike str_after (λ c. StrItemD (D c)) (λ x y u a. alike_more x y (strdec_changes u.0) a) (λ x y a j. StrItemD (same x y a j)) cs ds e i))

-- all languages of one height
record StrLevel (h : ℕ) (b : Bool) : Type 1 where
  pub str : ByFixities (str_on h b)
  pub strbind : ByFixities (strbind_on h b)
  pub strdec : ByFixities (strdec_on h b)

lowest : (b : Bool) → StrLevel zero b
unfolding str_on strbind_on strdec_on
lowest b = record { str = λ cs ds e. refl; strbind = λ cs ds e. refl; strdec = λ cs ds e. refl }

module _ (h : ℕ) (b : Bool) (L : StrLevel h b) where
  decs : ByFixities (strdecs_form (strdec_on h b))
  decs = strdecs_same (strdec_on h b) L.strdec

  abbrev Base : Changes → St → List Token → Type 0
  Base cs = base_form (strdecs_form (strdec_on h b) cs) (str_on h b cs) (λ us. str_on h b (str_afters cs us))

  bases : ByFixities Base
  bases cs ds e = λ i. base_form (decs cs ds e i) (L.str cs ds e i) (λ us. L.str (str_afters cs us) (str_afters ds us) (str_afters_alike us cs ds e) i)

  higher : StrLevel (suc h) b
  unfolding str_on strbind_on strdec_on
  higher = record {
    str = λ cs ds e i t w. str_form (bases cs ds e i) (L.str cs ds e i) (ascribe_on h) t w;
    strbind = λ cs ds e i t w. StrBindD (ascribe_on h) (L.str cs ds e i) t w;
    strdec = λ cs ds e i t w. let C = core_levels h b in strdec_form (C.dec cs ds e i) (L.strbind cs ds e i) (decs cs ds e i) (λ us. decs (str_afters cs us) (str_afters ds us) (str_afters_alike us cs ds e) i) t w;
  }

-- the grammar of structures of each height
str_levels : (h : ℕ) (b : Bool) → StrLevel h b
str_levels zero b = lowest b
str_levels (suc h) b = higher h b (str_levels h b)

funbinds : (h : ℕ) (b : Bool) → ByFixities (funbind_on h b)
unfolding funbind_on
funbinds zero b cs ds e = refl
funbinds (suc h) b cs ds e = λ i t w. let L = str_levels h b in FunBindD (sig_on h) (spec_on h) (ascribe_on h) (L.str cs ds e i) t w

tops : (h : ℕ) (b : Bool) → ByFixities (top_on h b)
unfolding top_on
tops zero b cs ds e = refl
tops (suc h) b cs ds e = λ i t w. let L = str_levels h b in TopD (L.strdec cs ds e i) (sigbind_on h) (funbinds h b cs ds e i) t w

runs : (h : ℕ) (b : Bool) → ByFixities (run_on h b)
unfolding run_on
runs zero b cs ds e = refl
runs (suc h) b cs ds e = λ i t w. let C = core_levels h b in RunD (C.exp cs ds e i) t w

-- what stands before is the same, under directives that leave the same fixities
abbrev SitesAlike : Site → Site → Type 0
SitesAlike x y = Alike x.0 y.0 × (x.1 ≡ y.1)

items : (h : ℕ) (b : Bool) (x y : Site) → SitesAlike x y → TopItemD (top_on h b) (run_on h b) x ≡ TopItemD (top_on h b) (run_on h b) y
items h b x y a = λ i. Both (HereD (tops h b x.0 y.0 a.0 i) (runs h b x.0 y.0 a.0 i) (a.1 i)) SemisD

item_alike : (x y : Site) (u : Item) → SitesAlike x y → SitesAlike (after_item x u) (after_item y u)
item_alike x y u a = (alike_more x.0 y.0 (top_changes u.0.0) a.0, refl)

programs_same : (h : ℕ) (b : Bool) → ByFixities (program_on h b)
unfolding program_on
programs_same zero b cs ds e = refl
programs_same (suc h) b cs ds e =
    λ i t w. As program_of (Both (Row (Shows (the SEMICOLON))) (Both (steps_same SitesAlike after_item (TopItemD (top_on h b) (run_on h b)) item_alike (items h b) (cs, Before.Fresh) (ds, Before.Fresh) (e, refl) i) (Shows the_end))) t w

-- programs see of the directives before them only the fixities
pub program_same : (cs ds : Changes) → Alike cs ds → ProgramR cs ≡ ProgramR ds
program_same cs ds e = λ i r. programs_same r.height r.clashes cs ds e i

tops_left : (ts : List Top) (cs ds : Changes) → Alike cs ds → Alike (left_by_tops cs ts) (left_by_tops ds ts)
tops_left [] cs ds e = e
tops_left (t ∷ ts) cs ds e = tops_left ts _ _ (alike_more cs ds (top_changes t) e)

-- and they leave the same fixities
pub left_alike : (cs ds : Changes) (t : Pr) → Alike cs ds → Alike (left_by cs t) (left_by ds t)
left_alike cs ds t e = go t.0
  where
    go : (p : Program) → Alike (left_by cs (p, t.1)) (left_by ds (p, t.1))
    go (programs.Tops p ts) = tops_left ts cs ds e

-- a refusal under some is one under the others
pub refusal_same : (cs ds : Changes) → Alike cs ds → (h : ℕ) (tokens : List Token) (c : Code) (rest : List Token) → Refusal (ProgramR cs) h tokens c rest → Refusal (ProgramR ds) h tokens c rest
refusal_same cs ds e h tokens c rest d = subst (λ (D : Room → Pr → List Token → Type 0). Refusal D h tokens c rest) (program_same cs ds e) d

-- a program under some is one under the others
pub derives_same : (cs ds : Changes) → Alike cs ds → (r : Room) (t : Pr) (tokens : List Token) → ProgramR cs r t tokens → ProgramR ds r t tokens
derives_same cs ds e r t tokens d = subst (λ (D : Room → Pr → List Token → Type 0). D r t tokens) (program_same cs ds e) d
