-- What `config_of` answers, stage by stage.
use Rattle.std.proofs.Common.{ℕ, List, ◌≡◌, refl, ap, map, codes, Option, None, Some, Result, Ok, Err}
use Rattle.mg_text.specs.View.{field_view, fields_view}
use Rattle.mg_text.specs.declared.tree.Field.{Field}
use Rattle.mg_config.specs.Values.{messages_in}
use Rattle.mg_config.specs.Path.{result_within, then_do}
use Rattle.mg_config.specs.Faults.{field_fault, calculator_fault}
use Rattle.mg_config.specs.Config.{graph_of, config_of, unless}
use Rattle.mg_config.specs.declared.schema.Message.TheVariants.{Graph}
use Rattle.mg_config.specs.declared.fault.ConfigFault.{ConfigFault}
use Rattle.mg_config.proofs.Loops.{entries_view}

pub config_stages : (fs : List Field) → config_of (fields_view fs) ≡ unless (field_fault Graph (fields_view fs)) (unless (calculator_fault 0 (messages_in (codes "node") (map field_view fs))) (graph_of (map field_view fs)))
config_stages fs = ap (λ es. unless (field_fault Graph (fields_view fs)) (unless (calculator_fault 0 (messages_in (codes "node") es)) (graph_of es))) (entries_view fs)

-- what a result that is no fault was made of
pub then_ok : {A B : Type 0} (result : Result A ConfigFault) (next : A → Result B ConfigFault) (value : B) → then_do result next ≡ Ok value → (first : A) × (result ≡ Ok first) × (next first ≡ Ok value)
then_ok (Ok first) next value made = (first, refl, made)
then_ok (Err fault) next value made = cc

pub within_ok : {A : Type 0} (place : List ℕ) (result : Result A ConfigFault) (value : A) → result_within place result ≡ Ok value → result ≡ Ok value
within_ok place (Ok first) value made = made
within_ok place (Err fault) value made = cc

pub unless_ok : {A : Type 0} (fault : Option ConfigFault) (result : Result A ConfigFault) (value : A) → unless fault result ≡ Ok value → (fault ≡ None) × (result ≡ Ok value)
unless_ok None result value made = (refl, made)
unless_ok (Some fault) result value made = cc
