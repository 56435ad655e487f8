-- A content is one file.
use Rattle.std.proofs.Common.{◌≡◌, ◌≢◌, ◌<◌, ◌≤◌, ℕ, List, length, Result, Ok, Err, refl, sym, ap, ◌∙◌, ◌↔◌, ⊎_elim, arith}
use Rattle.std.proofs.lemmas.Bool.{cases_lt}
use Rattle.mg_text.specs.declared.tree.Tree.{Tree}
use Rattle.mg_text.specs.Tree.{Fields, depth}
use Rattle.mg_text.specs.Answer.{max_len, max_depth, IsFault}
use Rattle.mg_text.specs.declared.fault.TextFault.{TextFault}
use Rattle.mg_text.specs.declared.fault.TextFault.TheVariants.{Syntax, TooDeep, TooLong, OutOfMemory}
use Rattle.mg_text.proofs.Faults.{one_text, one_syntax, one_too_deep, not_both, deep_text}
use Rattle.mg_config.specs.Config.{GraphView, config_of}
use Rattle.mg_config.specs.declared.fault.ConfigFault.{ConfigFault}
use Rattle.mg_files.specs.File.{File, graph, no_text, no_graph, IsText, IsNoText, IsFile}

abbrev read_as : GraphView → Result GraphView ConfigFault
read_as g = Ok g

abbrev refused_as : ConfigFault → Result GraphView ConfigFault
refused_as fault = Err fault

one_config : (content : List ℕ) (t u : Fields) → IsText content t → IsText content u → config_of t ≡ config_of u
one_config content t u one other = ap config_of (one_text content t u one.gives other.gives)

text_or_fault : (content : List ℕ) (t : Fields) (fault : TextFault) → IsText content t → IsNoText content fault → ⊥
text_or_fault content t (Syntax place) text fault = fault.1.no_text t text.gives
text_or_fault content t (TooDeep place) text fault = let deep : max_depth < depth t = deep_text content place t fault.1 text.gives in absurd (omega (arith, deep, text.shallow))
text_or_fault content t TooLong text fault = absurd (omega (arith, fault, text.short))
text_or_fault content t OutOfMemory text fault = fault

one_fault : (content : List ℕ) (a b : TextFault) → IsNoText content a → IsNoText content b → a ≡ b
one_fault content (Syntax p) (Syntax q) one other = ap Syntax (one_syntax content p q one.1 other.1)
one_fault content (Syntax p) (TooDeep q) one other = absurd (not_both content p q one.1 other.1)
one_fault content (Syntax p) TooLong one other = absurd (omega (arith, one.0, other))
one_fault content (TooDeep p) (Syntax q) one other = absurd (not_both content q p other.1 one.1)
one_fault content (TooDeep p) (TooDeep q) one other = ap TooDeep (one_too_deep content p q one.1 other.1)
one_fault content (TooDeep p) TooLong one other = absurd (omega (arith, one.0, other))
one_fault content TooLong (Syntax q) one other = absurd (omega (arith, one, other.0))
one_fault content TooLong (TooDeep q) one other = absurd (omega (arith, one, other.0))
one_fault content TooLong TooLong one other = refl
one_fault content a OutOfMemory one other = absurd other
one_fault content OutOfMemory b one other = absurd one

pub one_file : (content : List ℕ) (a b : File) → IsFile content a → IsFile content b → a ≡ b
one_file content (graph g) (graph h) (t, text, made) (u, other, read) = same g h (sym made ∙ one_config content t u text other ∙ read)
  where
    same : (g h : GraphView) → read_as g ≡ read_as h → graph g ≡ graph h
    same g h e = let e : g ≡ h = cc in ap graph e
one_file content (graph g) (no_graph fault) (t, text, made) (u, other, read) = absurd (differ g fault (sym made ∙ one_config content t u text other ∙ read))
  where
    differ : (g : GraphView) (fault : ConfigFault) → read_as g ≡ refused_as fault → ⊥
    differ g fault e = cc
one_file content (no_graph fault) (graph g) (t, text, made) (u, other, read) = absurd (differ g fault (sym read ∙ one_config content u t other text ∙ made))
  where
    differ : (g : GraphView) (fault : ConfigFault) → read_as g ≡ refused_as fault → ⊥
    differ g fault e = cc
one_file content (no_graph a) (no_graph b) (t, text, made) (u, other, read) = same a b (sym made ∙ one_config content t u text other ∙ read)
  where
    same : (a b : ConfigFault) → refused_as a ≡ refused_as b → no_graph a ≡ no_graph b
    same a b e = let e : a ≡ b = cc in ap no_graph e
one_file content (no_text a) (no_text b) one other = ap no_text (one_fault content a b one other)
one_file content (no_text a) (graph g) one (u, text, read) = absurd (text_or_fault content u a text one)
one_file content (no_text a) (no_graph fault) one (u, text, read) = absurd (text_or_fault content u a text one)
one_file content (graph g) (no_text b) (t, text, made) other = absurd (text_or_fault content t b text other)
one_file content (no_graph fault) (no_text b) (t, text, made) other = absurd (text_or_fault content t b text other)

-- A fault that is answered, and that isn't out of memory, is the reason that a content is no text.
pub no_text_of : (content : List ℕ) (fault : TextFault) → fault ≢ OutOfMemory → IsFault content fault → (fault ≢ TooLong → length content ≤ max_len) → IsNoText content fault
no_text_of content (Syntax place) some is short = (short (λ e. cc), is)
no_text_of content (TooDeep place) some is short = (short (λ e. cc), is)
no_text_of content TooLong some is short = is
no_text_of content OutOfMemory some is short = some refl

abbrev answered_as : TextFault → Result Tree TextFault
answered_as fault = Err fault

pub short_unless : (content : List ℕ) (fault : TextFault) → ((answered_as fault ≡ answered_as TooLong) ↔ (max_len < length content)) → fault ≢ TooLong → length content ≤ max_len
short_unless content fault due other = ⊎_elim (λ long. absurd (other (same fault TooLong (due.1 long)))) (λ short. short) (cases_lt max_len (length content))
  where
    same : (a b : TextFault) → answered_as a ≡ answered_as b → a ≡ b
    same a b e = cc
