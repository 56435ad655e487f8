-- The names that a line has in its object of packets are all different: JSON keeps each key of an object once, in order.
use Rattle.std.proofs.Common.{◌≡◌, ◌≢◌, ℕ, List, [], ◌∷◌, Bool, true, false, if◌then◌else◌, Option, Some, None, IfSome, option_map, option_and_then, refl, sym, ap, ◌∙◌, subst, ◌==◌, codes}
use Rattle.std.specs.declared.cmp.Ordering.{Ordering}
use Rattle.std.proofs.Common.{Less, Equal, Greater}
use Rattle.std.specs.Ordering.{nat_cmp, match_ordering, ordering_reverse}
use Rattle.std.specs.Cmp.Lexicographic.{slice_cmp}
use Rattle.std.specs.Str.{is_utf8}
use Rattle.std.proofs.lemmas.Cmp.{nat_list_cmp_total}
use Rattle.json.specs.Json as json
use Rattle.json.specs.Lex.{tokens}
use Rattle.serde_json.specs.Data.{Data, null, boolean, number, string, array, object, Members, no_members, member, put}
use Rattle.serde_json.specs.Read.{of_json, of_items, of_members, number_of, read, max_depth}
use Rattle.serde_json.specs.Find.{get, get_member, as_object}
use Rattle.mg_feed.specs.Form.{Named, Form, packets, bound, close, side, listed, member_count, text_at, flag_at, members_at, packet_form, bound_form, close_form, side_form, packets_form, either, two_form, form_of, json_value}

-- a key stands before all keys of an object
abbrev IsBefore : List ℕ → Members → Type 0
IsBefore k no_members = Unit {0}
IsBefore k (member l e ms) = (slice_cmp nat_cmp k l ≡ Less) × IsBefore k ms

-- the keys of an object ascend, and so do those of the objects that are its values
abbrev mutual
  Ascend : Data → Type 0
  Ascend null = Unit {0}
  Ascend (boolean b) = Unit {0}
  Ascend (number n) = Unit {0}
  Ascend (string s) = Unit {0}
  Ascend (array ds) = Unit {0}
  Ascend (object ms) = KeysAscend ms

  KeysAscend : Members → Type 0
  KeysAscend no_members = Unit {0}
  KeysAscend (member k d ms) = IsBefore k ms × Ascend d × KeysAscend ms

-- Order --

less-trans : (a b c : List ℕ) → slice_cmp nat_cmp a b ≡ Less → slice_cmp nat_cmp b c ≡ Less → slice_cmp nat_cmp a c ≡ Less
less-trans a b c = nat_list_cmp_total.trans a b c

less-turned : (a b : List ℕ) → slice_cmp nat_cmp a b ≡ Greater → slice_cmp nat_cmp b a ≡ Less
less-turned a b e = nat_list_cmp_total.antisymm b a ∙ ap ordering_reverse e

less-apart : (a b : List ℕ) → slice_cmp nat_cmp a b ≡ Less → a ≢ b
less-apart a b less same =
    let flip : slice_cmp nat_cmp b a ≡ Greater = nat_list_cmp_total.antisymm b a ∙ ap ordering_reverse less in
    let e : slice_cmp nat_cmp a a ≡ Less = subst (λ (x : List ℕ). slice_cmp nat_cmp a x ≡ Less) (sym same) less in
    let g : slice_cmp nat_cmp a a ≡ Greater = subst (λ (x : List ℕ). slice_cmp nat_cmp x a ≡ Greater) (sym same) flip in
    absurd_by (e) g
  where
    absurd_by : {o : Ordering} → o ≡ Less → o ≡ Greater → ⊥
    absurd_by e g = cc

before-trans : (k l : List ℕ) (ms : Members) → slice_cmp nat_cmp k l ≡ Less → IsBefore l ms → IsBefore k ms
before-trans k l no_members less before = tt
before-trans k l (member m e ms) less before = (less-trans k l m less before.0, before-trans k l ms less before.1)

-- One more key --

before-match : (j : List ℕ) (o : Ordering) (a b c : Members) → IsBefore j a → IsBefore j b → IsBefore j c → IsBefore j (match_ordering o a b c)
before-match j Less a b c x y z = x
before-match j Equal a b c x y z = y
before-match j Greater a b c x y z = z

before-put : (j k : List ℕ) (d : Data) (ms : Members) → slice_cmp nat_cmp j k ≡ Less → IsBefore j ms → IsBefore j (put k d ms)
before-put j k d no_members less before = (less, tt)
before-put j k d (member l e ms) less before =
    before-match j (slice_cmp nat_cmp k l) (member k d (member l e ms)) (member l d ms) (member l e (put k d ms))
    (less, before) before (before.0, before-put j k d ms less before.1)

ascend-match : (o : Ordering) (k l : List ℕ) (d e : Data) (ms : Members) → slice_cmp nat_cmp k l ≡ o → Ascend d → KeysAscend (member l e ms) → KeysAscend (put k d ms)
    → KeysAscend (match_ordering o (member k d (member l e ms)) (member l d ms) (member l e (put k d ms)))
ascend-match Less k l d e ms is inner all more = ((is, before-trans k l ms is all.0), inner, all)
ascend-match Equal k l d e ms is inner all more = (all.0, inner, all.2)
ascend-match Greater k l d e ms is inner all more = (before-put l k d ms (less-turned k l is) all.0, all.1, more)

ascend-put : (k : List ℕ) (d : Data) (ms : Members) → Ascend d → KeysAscend ms → KeysAscend (put k d ms)
ascend-put k d no_members inner all = (tt, inner, tt)
ascend-put k d (member l e ms) inner all = ascend-match (slice_cmp nat_cmp k l) k l d e ms refl inner all (ascend-put k d ms inner all.2)

-- What is read --

if-map : {A B : Type 0} (P : A → Type 0) (Q : B → Type 0) (f : A → B) (o : Option A) → ((a : A) → P a → Q (f a)) → IfSome o P → IfSome (option_map f o) Q
if-map P Q f None step h = tt
if-map P Q f (Some a) step h = step a h

if-then : {A B : Type 0} (P : A → Type 0) (Q : B → Type 0) (f : A → Option B) (o : Option A) → ((a : A) → P a → IfSome (f a) Q) → IfSome o P → IfSome (option_and_then f o) Q
if-then P Q f None step h = tt
if-then P Q f (Some a) step h = step a h

if-any : {A : Type 0} (o : Option A) → IfSome o (λ _. Unit {0})
if-any None = tt
if-any (Some a) = tt

mutual
  ascend-of_json : (j : json.Json) → IfSome (of_json j) Ascend
  ascend-of_json json.null = tt
  ascend-of_json (json.boolean b) = tt
  ascend-of_json (json.number s) = if-map (λ _. Unit {0}) Ascend number (number_of s) (λ a h. tt) (if-any (number_of s))
  ascend-of_json (json.string s) = tt
  ascend-of_json (json.array js) = if-map (λ _. Unit {0}) Ascend array (of_items js) (λ a h. tt) (if-any (of_items js))
  ascend-of_json (json.object ms) = if-map KeysAscend Ascend object (of_members ms no_members) (λ a h. h) (ascend-of_members ms no_members tt)

  ascend-of_members : (ms : json.Members) (found : Members) → KeysAscend found → IfSome (of_members ms found) KeysAscend
  ascend-of_members json.no_members found h = h
  ascend-of_members (json.member k j ms) found h =
      if-then Ascend KeysAscend (λ d. of_members ms (put k d found)) (of_json j) (λ d inner. ascend-of_members ms (put k d found) (ascend-put k d found inner h)) (ascend-of_json j)

ascend-read : (text : List ℕ) → IfSome (read text) Ascend
ascend-read text = if-then (λ _. Unit {0}) Ascend of_json (option_and_then (λ p. json.if_last p.0 p.1) (json.value max_depth (tokens text)))
    (λ j h. ascend-of_json j) (if-any (option_and_then (λ p. json.if_last p.0 p.1) (json.value max_depth (tokens text))))

ascend-if : (b : Bool) (o : Option Data) → IfSome o Ascend → IfSome (if b then o else None) Ascend
ascend-if true o h = h
ascend-if false o h = tt

ascend-line : (text : List ℕ) → IfSome (json_value text) Ascend
unfolding json_value
ascend-line text = ascend-if (is_utf8 text) (read text) (ascend-read text)

-- Forms --

-- a name is none of these names
abbrev pub IsNew : List ℕ → List Named → Type 0
IsNew name [] = Unit {0}
IsNew name (v ∷ vs) = (name ≢ v.name) × IsNew name vs

abbrev pub AreApart : List Named → Type 0
AreApart [] = Unit {0}
AreApart (v ∷ vs) = IsNew v.name vs × AreApart vs

-- the packets that a line says are of different streams
abbrev pub HasApart : Form → Type 0
HasApart (packets t vs) = AreApart vs
HasApart (bound name t) = Unit {0}
HasApart (close name) = Unit {0}
HasApart (side name v) = Unit {0}

new-before : (k : List ℕ) (ms : Members) → IsBefore k ms → IsNew k (listed ms)
new-before k no_members before = tt
new-before k (member l e ms) before = (less-apart k l before.0, new-before k ms before.1)

apart-listed : (ms : Members) → KeysAscend ms → AreApart (listed ms)
apart-listed no_members h = tt
apart-listed (member k d ms) h = (new-before k ms h.0, apart-listed ms h.2)

ascend-picked : (o : Ordering) (a b : Option Data) → IfSome a Ascend → IfSome b Ascend → IfSome (match_ordering o a b a) Ascend
ascend-picked Less a b x y = x
ascend-picked Equal a b x y = y
ascend-picked Greater a b x y = x

ascend-member : (k : List ℕ) (ms : Members) → KeysAscend ms → IfSome (get_member k ms) Ascend
ascend-member k no_members h = tt
ascend-member k (member l e ms) h = ascend-picked (slice_cmp nat_cmp k l) (get_member k ms) (Some e) (ascend-member k ms h.2) h.1

ascend-get : (k : List ℕ) (d : Data) → Ascend d → IfSome (get k d) Ascend
ascend-get k null h = tt
ascend-get k (boolean b) h = tt
ascend-get k (number n) h = tt
ascend-get k (string s) h = tt
ascend-get k (array ds) h = tt
ascend-get k (object ms) h = ascend-member k ms h

keys-object : (d : Data) → Ascend d → IfSome (as_object d) KeysAscend
keys-object null h = tt
keys-object (boolean b) h = tt
keys-object (number n) h = tt
keys-object (string s) h = tt
keys-object (array ds) h = tt
keys-object (object ms) h = h

keys-at : (k : List ℕ) (d : Data) → Ascend d → IfSome (members_at k d) KeysAscend
keys-at k d h = if-then Ascend KeysAscend as_object (get k d) keys-object (ascend-get k d h)

apart-packet : (name : Option (List ℕ)) (time value : Option Data) → IfSome (packet_form name time value) HasApart
apart-packet None time value = tt
apart-packet (Some name) None value = tt
apart-packet (Some name) (Some time) None = tt
apart-packet (Some name) (Some time) (Some value) = (tt, tt)

apart-bound : (name : Option (List ℕ)) (time : Option Data) → IfSome (bound_form name time) HasApart
apart-bound None time = tt
apart-bound (Some name) None = tt
apart-bound (Some name) (Some time) = tt

apart-if : (b : Bool) (x y : Option Form) → IfSome x HasApart → IfSome y HasApart → IfSome (if b then x else y) HasApart
apart-if true x y h k = h
apart-if false x y h k = k

apart-close : (name : Option (List ℕ)) (flag : Option Bool) → IfSome (close_form name flag) HasApart
apart-close None flag = tt
apart-close (Some name) None = tt
apart-close (Some name) (Some flag) = apart-if flag (Some (close name)) None tt tt

apart-side : (name : Option (List ℕ)) (value : Option Data) → IfSome (side_form name value) HasApart
apart-side None value = tt
apart-side (Some name) None = tt
apart-side (Some name) (Some value) = tt

apart-packets : (time : Option Data) (ms : Option Members) → IfSome ms KeysAscend → IfSome (packets_form time ms) HasApart
apart-packets None ms h = tt
apart-packets (Some time) None h = tt
apart-packets (Some time) (Some no_members) h = tt
apart-packets (Some time) (Some (member k d ms)) h = apart-listed (member k d ms) h

apart-either : (x y : Option Form) → IfSome x HasApart → IfSome y HasApart → IfSome (either x y) HasApart
apart-either None y h k = k
apart-either (Some form) y h k = h

apart-two : (d : Data) → Ascend d → IfSome (two_form d) HasApart
apart-two d h =
    apart-either (bound_form (text_at (codes "stream") d) (get (codes "bound") d))
    (either (close_form (text_at (codes "stream") d) (flag_at (codes "close") d))
    (either (side_form (text_at (codes "side") d) (get (codes "value") d))
    (packets_form (get (codes "at") d) (members_at (codes "packets") d))))
    (apart-bound (text_at (codes "stream") d) (get (codes "bound") d))
    (apart-either (close_form (text_at (codes "stream") d) (flag_at (codes "close") d))
    (either (side_form (text_at (codes "side") d) (get (codes "value") d)) (packets_form (get (codes "at") d) (members_at (codes "packets") d)))
    (apart-close (text_at (codes "stream") d) (flag_at (codes "close") d))
    (apart-either (side_form (text_at (codes "side") d) (get (codes "value") d)) (packets_form (get (codes "at") d) (members_at (codes "packets") d))
    (apart-side (text_at (codes "side") d) (get (codes "value") d))
    (apart-packets (get (codes "at") d) (members_at (codes "packets") d) (keys-at (codes "packets") d h))))

apart-form : (d : Data) → Ascend d → IfSome (form_of d) HasApart
apart-form d h =
    apart-if (member_count d == 3) (packet_form (text_at (codes "stream") d) (get (codes "ts") d) (get (codes "value") d)) (if member_count d == 2 then two_form d else None)
    (apart-packet (text_at (codes "stream") d) (get (codes "ts") d) (get (codes "value") d))
    (apart-if (member_count d == 2) (two_form d) None (apart-two d h) tt)

-- a line's form has different names
pub apart-line : (line : List ℕ) → IfSome (option_and_then form_of (json_value line)) HasApart
apart-line line = if-then Ascend HasApart form_of (json_value line) apart-form (ascend-line line)
