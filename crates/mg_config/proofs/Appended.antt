-- Lists to whose end others are put.
use Rattle.std.proofs.Common.{ℕ, ◌+◌, ◌<◌, ◌≡◌, List, [], ◌∷◌, ◌++◌, false, length, take, get_or, map, append_assoc, arith, refl, sym, ap, ◌∙◌, codes}
use Rattle.std.specs.Str.{bytes_eq}
use Rattle.mg_text.specs.View.{Entry}
use Rattle.mg_config.specs.Config.{NodeView}
use Rattle.mg_config.specs.Written.{mark_fields, handler_field, number_field, options_field, node_ends}
use Rattle.std.proofs.lemmas.List.{take_more, map-append}

pub map_more : {A E : Type 0} (f : A → E) (xs : List A) (i : ℕ) (d : A) (o x y : List E) → i < length xs → d ≡ get_or xs i d → x ≡ o ++ map f (take i xs) → y ≡ x ++ f d ∷ [] → y ≡ o ++ map f (take (i + 1) xs)
map_more f xs i d o x y inside same before put =
    put ∙ ap (λ z. z ++ f d ∷ []) before ∙ append_assoc o (map f (take i xs)) (f d ∷ [])
    ∙ ap (λ z. o ++ z) (sym (ap (map f) (take_more xs i d inside ∙ ap (λ z. take i xs ++ z ∷ []) (sym same)) ∙ map-append f (take i xs) (d ∷ [])))

pub map_map : {A B C : Type 0} (f : B → C) (g : A → B) (xs : List A) → map (λ x. f (g x)) xs ≡ map f (map g xs)
map_map f g [] = refl
map_map f g (x ∷ xs) = ap (λ z. f (g x) ∷ z) (map_map f g xs)

-- two pieces, one after the other
pub put_two : {E : Type 0} (x0 x1 x2 a b : List E) → x1 ≡ x0 ++ a → x2 ≡ x1 ++ b → x2 ≡ x0 ++ (a ++ b)
put_two x0 x1 x2 a b e1 e2 = e2 ∙ ap (λ z. z ++ b) e1 ∙ append_assoc x0 a b

pub chain : {E : Type 0} (x0 x1 x2 x3 x4 a b c d e : List E) → x0 ≡ [] → x1 ≡ x0 ++ a → x2 ≡ x1 ++ b → x3 ≡ x2 ++ (c ++ d) → x4 ≡ x3 ++ e → x4 ≡ a ++ (b ++ (c ++ (d ++ e)))
chain x0 x1 x2 x3 x4 a b c d e e0 e1 e2 e3 e4 =
    put_two x0 x1 x4 a (b ++ (c ++ (d ++ e))) e1 (put_two x1 x2 x4 b (c ++ (d ++ e)) e2 (put_two x2 x3 x4 (c ++ d) e e3 e4 ∙ ap (λ z. x2 ++ z) (append_assoc c d e)))
    ∙ ap (λ z. z ++ (a ++ (b ++ (c ++ (d ++ e))))) e0

-- the ends of a node, one piece after another
pub put_ends : (node : NodeView) (x0 x1 x2 x3 x4 x5 : List Entry) → x1 ≡ x0 ++ mark_fields node.back_marks → x2 ≡ x1 ++ handler_field node.handler
    → x3 ≡ x2 ++ number_field (codes "max_in_flight") node.max_in_flight → x4 ≡ x3 ++ number_field (codes "buffer_size_hint") node.buffer_size_hint → x5 ≡ x4 ++ options_field node.options
    → x5 ≡ x0 ++ node_ends node
put_ends node x0 x1 x2 x3 x4 x5 e1 e2 e3 e4 e5 =
    five (mark_fields node.back_marks) (handler_field node.handler) (number_field (codes "max_in_flight") node.max_in_flight) (number_field (codes "buffer_size_hint") node.buffer_size_hint)
    (options_field node.options) e1 e2 e3 e4 e5
  where
    five : (a b c d e : List Entry) → x1 ≡ x0 ++ a → x2 ≡ x1 ++ b → x3 ≡ x2 ++ c → x4 ≡ x3 ++ d → x5 ≡ x4 ++ e → x5 ≡ x0 ++ (a ++ (b ++ (c ++ (d ++ e))))
    five a b c d e e1 e2 e3 e4 e5 =
        put_two x0 x1 x5 a (b ++ (c ++ (d ++ e))) e1 (put_two x1 x2 x5 b (c ++ (d ++ e)) e2 (put_two x2 x3 x5 c (d ++ e) e3 (put_two x3 x4 x5 d e e4 e5)))

pub not_empty : (xs : List ℕ) → 0 < length xs → bytes_eq xs [] ≡ false
not_empty [] some = absurd (omega arith)
not_empty (x ∷ xs) some = refl
