-- Which sources are refused, where and with which code.
use Rattle.std.specs.Prelude.{◌≡◌, ◌⊎◌, ℕ, suc, ◌+◌, ◌<◌, ◌≤◌, List, [], ◌∷◌, ◌++◌, length, sum_by}
use Rattle.tl_text.specs.declared.code.Code.{Code}
use Rattle.tl_text.specs.declared.code.Code.TheVariants as code
use Rattle.tl_text.specs.declared.place.Place.{Place}
use Rattle.tl_session.specs.Kept.{Source}
use Rattle.sml_ast.specs.declared.program.Program.{Program}
use Rattle.sml_fix.specs.Fixities.{Settings, start}
use Rattle.sml_derive.specs.Programs.{Derived}
use Rattle.sml_front.specs.Sources.{IsSourceUnder, RefusedUnder}
use Rattle.built_items.specs.Built.{IsUnbuilt}

-- how many bytes a source may have, and all sources together
abbrev pub source_limit : ℕ
source_limit = 1048576

abbrev pub total_limit : ℕ
total_limit = 33554432

abbrev pub total_bytes : List Source → ℕ
total_bytes sources = sum_by (λ s. length s.bytes) sources

-- the first place of a source
abbrev pub first_place : ℕ → Place
first_place k = record { source = k; line = 1; col = 1; byte = 0 }

-- The sources, the first of which has the number k, are lawful programs one after another: the first under these fixities, and
-- each further one under those that the source before it leaves; the last leaves these.
abbrev pub InForce : ℕ → Settings → List Source → Settings → Type 0
InForce k fix [] left = left ≡ fix
InForce k fix (source ∷ sources) left =
    (program : Program) × (next : Settings) × IsSourceUnder k fix source.bytes program next × InForce (suc k) next sources left

-- the source of this number, under these fixities before it, is a lawful program of which a top-level declaration is not built: code 36, at the first
abbrev pub FailsUnbuilt : ℕ → Settings → List ℕ → Place → Code → Type 0
FailsUnbuilt number fix bytes place c =
    (left : Settings) × (program : Program) × IsSourceUnder number fix bytes program left × IsUnbuilt (Derived program) place × (c ≡ code.Unbuilt)

-- the source of this number fails under these fixities: it is no lawful program, or one that is not built
abbrev pub FailsUnder : ℕ → Settings → List ℕ → Place → Code → Type 0
FailsUnder number fix bytes place c = RefusedUnder number fix bytes place c ⊎ FailsUnbuilt number fix bytes place c

-- whatever lawful program the source of this number is under these fixities, it leaves those
abbrev pub LeavesOnly : ℕ → Settings → List ℕ → Settings → Type 0
LeavesOnly number fix bytes left = (program : Program) (other : Settings) → IsSourceUnder number fix bytes program other → other ≡ left

-- the source fails under the fixities that those before it leave
abbrev pub FailsAfter : List Source → Source → Place → Code → Type 0
FailsAfter before source place c = (fix : Settings) × InForce 1 start before fix × FailsUnder (suc (length before)) fix source.bytes place c

-- After these sources, which are accepted, a further one fails at the place, with the code.
abbrev pub Fails : List Source → Source → Place → Code → Type 0
Fails before source place c =
    ((source_limit < length source.bytes) × (place ≡ first_place (suc (length before))) × (c ≡ code.SourceSize))
    ⊎ (((length source.bytes ≤ source_limit) × (total_limit < total_bytes before + length source.bytes)
    × (place ≡ first_place (suc (length before))) × (c ≡ code.TotalSize))
    ⊎ ((length source.bytes ≤ source_limit) × (total_bytes before + length source.bytes ≤ total_limit)
    × FailsAfter before source place c))

-- no source fails after those before it
abbrev pub Accepted : List Source → Type 0
Accepted sources =
    (before after : List Source) (source : Source) (place : Place) (c : Code) → sources ≡ before ++ (source ∷ after) → Fails before source place c → ⊥

-- all sources but the last are accepted, and the last fails there
abbrev pub RefusedAt : List Source → Place → Code → Type 0
RefusedAt sources place c = (before : List Source) × (source : Source) × (sources ≡ before ++ (source ∷ [])) × Accepted before × Fails before source place c
