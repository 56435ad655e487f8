-- How the logic stores an inbox.
use Rattle.std.specs.Prelude.{◌≡◌, Bool, true, false, refl}
use Rattle.std.specs.Coded.{Coded, code_by, coded×, coded_bool}
use Rattle.mg_value.specs.Payload.{Plain}
use Rattle.mg_value.specs.declared.policy.Policy.{Policy}
use Rattle.mg_value.specs.declared.policy.Policy.TheVariants.{Default, Mux}
use Rattle.mg_stream.specs.Pool.{Pooled}
use Rattle.mg_stream.specs.PoolCodes.{pool_code}
use Rattle.mg_policy.specs.Inbox.{Gathered}

abbrev pub is_mux : Policy → Bool
is_mux Default = false
is_mux Mux = true

abbrev pub policy_of : Bool → Policy
policy_of false = Default
policy_of true = Mux

abbrev pub policy_back : (policy : Policy) → policy_of (is_mux policy) ≡ policy
policy_back Default = refl
policy_back Mux = refl

abbrev pub policy_code : Coded Policy
policy_code = code_by Bool coded_bool is_mux policy_of policy_back

abbrev pub inbox_code : Coded Gathered
inbox_code =
    code_by (Policy × Pooled Plain) (coded× policy_code pool_code) (λ i. (i.policy, i.pool)) (λ p. record { policy = p.0; pool = p.1 }) (λ _. refl)
