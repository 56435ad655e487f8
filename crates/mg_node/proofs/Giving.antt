-- An engine that gives up packets of an output stays lawful.
use Rattle.mg_calc.specs.Rules.{Laws}
use Rattle.std.proofs.Common.{◌≡◌, ℕ, ◌+◌, ◌-◌, ◌<◌, ◌≤◌, List, length, length-drop, drop, drop-drop, get_or, set, map, ap, sym, ◌∙◌, arith}
use Rattle.std.proofs.lemmas.List.{length-map, get_or-map}
use Rattle.mg_value.specs.Payload.{Plain}
use Rattle.mg_settled.specs.Prefix.{StreamPrefix, empty_prefix}
use Rattle.mg_stream.specs.Queue.{Waiting, StandsFor}
use Rattle.mg_stream.specs.Pool.{Backlog, queue_of, backlog_of, empty_backlog}
use Rattle.mg_node.specs.Views.{EngineView}
use Rattle.mg_node.specs.Outputs.{without_first, count_at}
use Rattle.mg_node.specs.Job.{LoggedJob}
use Rattle.mg_node.specs.Lawful.{Owner, of_node, of_input, StandForAll, IsEngineOf, IsInputOf, LawfulEngine}
use Rattle.mg_node.proofs.Zips.{zip_at, zip_left, map-set}

stands_without : (b : Backlog Plain) (s : StreamPrefix Plain) (got : ℕ) → got ≤ b.gone + length b.packets → StandsFor (queue_of 0 b) s → StandsFor (queue_of 0 (without_first got b)) s
stands_without b s got le h = record {
  prefix = h.prefix;
  gone = (let gone = h.gone in omega (arith, le, gone, ap length h.waiting, length-drop b.gone s.packets));
  waiting = ap (λ ps. drop (got - b.gone) ps) h.waiting ∙ drop-drop (got - b.gone) b.gone s.packets ∙ ap (λ (n : ℕ). drop n s.packets) (omega arith);
  bound = h.bound;
}

kept_without : (outputs : List (Backlog Plain)) (whole : List (StreamPrefix Plain)) (output got : ℕ) → output < length outputs
    → got ≤ (get_or outputs output empty_backlog).gone + length (get_or outputs output empty_backlog).packets → StandForAll outputs whole
    → StandForAll (set outputs output (without_first got (get_or outputs output empty_backlog))) whole
kept_without outputs whole output got there le kept =
    let R = λ (o : Backlog Plain) (s : StreamPrefix Plain). StandsFor (queue_of 0 o) s in
    zip_left R outputs whole output (without_first got (get_or outputs output empty_backlog)) empty_prefix kept there
    (stands_without (get_or outputs output empty_backlog) (get_or whole output empty_prefix) got le (zip_at R outputs whole output empty_backlog empty_prefix kept there))

abbrev pub given : EngineView → ℕ → ℕ → EngineView
given engine output got = record engine { outputs = set engine.outputs output (without_first got (get_or engine.outputs output empty_backlog)) }

given_node : {laws : Laws} (job : LoggedJob laws) (number : ℕ) (engine : EngineView) (output got : ℕ) → output < length engine.outputs → got ≤ count_at engine output → IsEngineOf job number engine → IsEngineOf job number (given engine output got)
given_node {laws} job number engine output got there le h = record {
  streams = h.streams;
  solves = h.solves;
  node = h.node;
  there = h.there;
  set_up = record { role = h.set_up.role; number_is = h.set_up.number_is; first = h.set_up.first; offset = h.set_up.offset; in_flight = h.set_up.in_flight; inputs = h.set_up.inputs };
  begun = h.begun;
  claimed = h.claimed;
  taken = h.taken;
  closed = h.closed;
  whole = h.whole;
  kept = kept_without engine.outputs h.whole output got there le h.kept;
  raised = h.raised;
  extended = h.extended;
  fault = h.fault;
  order = h.order;
  entries = h.entries;
  idle = h.idle;
  contexts = h.contexts;
  waits = h.waits;
  ended = h.ended;
}

given_input : {laws : Laws} (job : LoggedJob laws) (number : ℕ) (engine : EngineView) (output got : ℕ) → output < length engine.outputs → got ≤ count_at engine output → IsInputOf job number engine → IsInputOf job number (given engine output got)
given_input {laws} job number engine output got there le h = record {
  streams = h.streams;
  solves = h.solves;
  there = h.there;
  role = h.role;
  number_is = h.number_is;
  first = h.first;
  kept = kept_without engine.outputs _ output got there le h.kept;
  laid = h.laid;
  claimed = h.claimed;
  window = h.window;
  idle = h.idle;
  fault = h.fault;
}

pub giving_lawful : {laws : Laws} (job : LoggedJob laws) (owner : Owner) (engine : EngineView) (output got : ℕ) → output < length engine.outputs → got ≤ count_at engine output → LawfulEngine job owner engine → LawfulEngine job owner (given engine output got)
unfolding LawfulEngine
giving_lawful {laws} job (of_node number) engine output got there le h = given_node job number engine output got there le h
giving_lawful {laws} job (of_input number) engine output got there le h = given_input job number engine output got there le h

-- what the code leaves
abbrev pub with_outputs : EngineView → List (Backlog Plain) → EngineView
with_outputs engine outputs = record engine { outputs = outputs }

pub gave : (engine : EngineView) (items : List (Waiting Plain)) (output got : ℕ) (old q : Waiting Plain) → map backlog_of items ≡ engine.outputs → output < length engine.outputs → old ≡ get_or items output old
    → backlog_of q ≡ without_first got (backlog_of old) → with_outputs engine (map backlog_of (set items output q)) ≡ given engine output got
gave engine items output got old q is there at h =
    let long : output < length items = (let same = ap length is in omega (arith, there, same, length-map items backlog_of)) in
    let here : backlog_of old ≡ get_or engine.outputs output empty_backlog =
    ap backlog_of at ∙ sym (get_or-map backlog_of items output old empty_backlog long) ∙ ap (λ (bs : List (Backlog Plain)). get_or bs output empty_backlog) is in
    ap (with_outputs engine) (map-set backlog_of items output q ∙ ap (λ (b : Backlog Plain). set (map backlog_of items) output b) (h ∙ ap (without_first got) here)
    ∙ ap (λ (bs : List (Backlog Plain)). set bs output (without_first got (get_or engine.outputs output empty_backlog))) is)
