-- An array of a declared type that is a struct's field is one of the type's own values, and back: the field has tuples where the author has records.
-- Assumes nothing.
use mathlib.Core.Path.{sym, ◌∙◌}
use mathlib.Core.List.{List, [], ◌∷◌, map}
use Prim.Native.Nat.{ℕ}
use lib.ListN.{length-map}
use mir.Val.{Val}
use denote.Shadow.{shadow}
use denote.Array.{each, Array}
use denote.Laws.{Is}
use denote.Struct.Declared.{Declared, field, row as declared-row}

declared_elements_of_field_elements : (T : Declared) (xs : List T.D) (us : List Val)
    → shadow (each (field T).row.Denot (field T).row.own_val (map T.to xs) us) → shadow (each T.D (declared-row T).own_val xs us)
declared_elements_of_field_elements T [] [] s = s
declared_elements_of_field_elements T [] (u ∷ us) s = s
declared_elements_of_field_elements T (x ∷ xs) [] s = s
declared_elements_of_field_elements T (x ∷ xs) (u ∷ us) s = (s.0, declared_elements_of_field_elements T xs us s.1)

pub declared_array_of_field_array : (T : Declared) (n : ℕ) (xs : List T.D) (vs : List Val) → Is (Array (field T).row n) (map T.to xs) vs
    → Is (Array (declared-row T) n) xs vs
declared_array_of_field_array T n xs vs p =
    (p.0, ((p.1.0.0, sym (length-map xs T.to) ∙ p.1.0.1), declared_elements_of_field_elements T xs p.0 p.1.1))

field_elements_of_declared_elements : (T : Declared) (xs : List T.D) (us : List Val) → shadow (each T.D (declared-row T).own_val xs us)
    → shadow (each (field T).row.Denot (field T).row.own_val (map T.to xs) us)
field_elements_of_declared_elements T [] [] s = s
field_elements_of_declared_elements T [] (u ∷ us) s = s
field_elements_of_declared_elements T (x ∷ xs) [] s = s
field_elements_of_declared_elements T (x ∷ xs) (u ∷ us) s = (s.0, field_elements_of_declared_elements T xs us s.1)

pub field_array_of_declared_array : (T : Declared) (n : ℕ) (xs : List T.D) (vs : List Val) → Is (Array (declared-row T) n) xs vs
    → Is (Array (field T).row n) (map T.to xs) vs
field_array_of_declared_array T n xs vs p =
    (p.0, ((p.1.0.0, length-map xs T.to ∙ p.1.0.1), field_elements_of_declared_elements T xs p.0 p.1.1))
