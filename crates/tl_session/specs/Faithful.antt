-- What a translation is: unit by unit, the text so far reads, types, keeps the interface and agrees with the sources so far.
use Rattle.std.specs.Prelude.{◌≡◌, ℕ, suc, ◌≤◌, ◌<◌, List, [], ◌∷◌, ◌++◌, length, take}
use Rattle.std.specs.List.{flat_map}
use Rattle.built_items.specs.declared.item.SourceItem.{SourceItem}
use Rattle.built_items.specs.Built.{AreItems}
use Rattle.sml_ast.specs.declared.program.Program.{Program}
use Rattle.sml_fix.specs.Fixities.{Settings, start}
use Rattle.sml_derive.specs.Programs.{Derived}
use Rattle.sml_front.specs.Sources.{IsSourceUnder}
use Rattle.tl_session.specs.Kept.{Source, Kept, basis_after}
use Rattle.oc_layout.specs.Layout.{Layout}
use Rattle.tl_session.specs.OcTypes as oc
use Rattle.tl_session.specs.Probe.{IsProbe, homes_in, plain_items}
use Rattle.tl_session.specs.Program.{Dec, decs_of}
use Rattle.oc_rules.specs.Reads.{Reads}
use Rattle.tl_session.specs.Refused.{Accepted}
use Rattle.tl_session.specs.Runs.{Agrees}
use Rattle.oc_ast.specs.Plain.{PItems, NoItems}
use Rattle.tl_session.specs.Written.{rt_tree, base_of, unit_tree, join}

-- the source of this number is these items under the fixities before it, and leaves those
pub record IsItems (number : ℕ) (fix : Settings) (bytes : List ℕ) (items : List SourceItem) (left : Settings) : Type 0 where
  pub program : Program
  pub source : IsSourceUnder number fix bytes program left
  pub built : AreItems (Derived program) items

-- each source is its items, one by one, where the first has the number k and these fixities are before it; they leave those
abbrev pub AreRead : ℕ → Settings → List Source → List (List SourceItem) → Settings → Type 0
AreRead k fix [] [] left = left ≡ fix
AreRead k fix (source ∷ sources) (program ∷ programs) left =
    (next : Settings) × IsItems k fix source.bytes program next × AreRead (suc k) next sources programs left
AreRead _ _ _ _ _ = ⊥

-- the texts of sources with these programs, from number k on
abbrev pub texts_from : ℕ → List Source → List (List SourceItem) → List PItems
texts_from k (s ∷ sources) (p ∷ programs) = unit_tree k (base_of s.name) p ∷ texts_from (suc k) sources programs
texts_from k _ _ = []

-- texts one after another
abbrev pub joined : List PItems → PItems
joined [] = NoItems
joined (text ∷ texts) = join text (joined texts)

-- Rt and the texts after it, as one text
abbrev pub whole : List PItems → PItems
whole texts = join rt_tree (joined texts)

-- the bytes of Rt and of the texts after it
abbrev pub bytes_of : List PItems → List ℕ
bytes_of texts = Layout rt_tree ++ flat_map Layout texts

-- for each probe, the sources with it after them agree with the text with its plain text after it
abbrev pub Probed : List Source → List (List SourceItem) → PItems → Type 0
Probed sources programs text =
    (probe : List Dec) → IsProbe (basis_after sources programs) probe
    → Agrees (decs_of programs ++ probe) (join text (plain_items (homes_in (basis_after sources programs)) probe))

-- The texts are faithful to the sources, which have these programs; env is what the texts bind.
pub record Faithful (sources : List Source) (programs : List (List SourceItem)) (texts : List PItems) (env : oc.Env) : Type 0 where
  -- the sources are accepted, and are these programs
  pub accepted : Accepted sources
  pub left : Settings
  pub read : AreRead 1 start sources programs left
  -- the bytes are the text
  pub reads : Reads (bytes_of texts) (whole texts)
  -- and no other one
  pub alone : (other : PItems) → Reads (bytes_of texts) other → other ≡ whole texts
  -- the text types
  pub types : oc.OcText (whole texts) env
  -- each variable has the image of its type at its home
  pub kept : Kept (basis_after sources programs) env
  -- output, end and uncaught exception agree, in any order of arguments
  pub agrees : Agrees (decs_of programs) (whole texts)
  -- the values at the homes are the right ones
  pub probed : Probed sources programs (whole texts)

-- what a session is seen as: its sources, and their programs
pub record Standing : Type 0 where
  pub sources : List Source
  pub programs : List (List SourceItem)

-- the trees of its texts, one for each source
abbrev pub texts_of : Standing → List PItems
texts_of s = texts_from 1 s.sources s.programs

-- before any source
abbrev pub no_sources : Standing
no_sources = record { sources = []; programs = [] }

-- with one more source
abbrev pub with_source : Standing → Source → List SourceItem → Standing
with_source s source program = record { sources = s.sources ++ source ∷ []; programs = s.programs ++ program ∷ [] }

-- After each source the texts so far are faithful to the sources so far; the environment of each source's text is that
-- of the one before it, with more bound.
pub record IsTranslation (s : Standing) : Type 0 where
  pub each_program : length s.programs ≡ length s.sources
  pub envs : ℕ → oc.Env
  pub faithful : (i : ℕ) → i ≤ length s.sources → Faithful (take i s.sources) (take i s.programs) (take i (texts_of s)) (envs i)
  pub grows : (i : ℕ) → i < length s.sources → (d : oc.Env) × (envs (suc i) ≡ oc.over d (envs i))
