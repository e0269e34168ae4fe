-- The slices that a walk is lent.
use Rattle.std.specs.Prelude.{List, ℕ, ℤ}
use Rattle.sketch.specs.Sketch.{Sketch, sketch}

-- a sketch's counts and idsums, the table's flows and numbers, the queue and the marks
pub record Slices : Type 0 where
  pub counts : List ℤ
  pub idsums : List ℕ
  pub flows : List ℕ
  pub numbers : List ℤ
  pub queue : List ℕ
  pub marks : List ℕ

abbrev pub slices : List ℤ → List ℕ → List ℕ → List ℤ → List ℕ → List ℕ → Slices
slices cs ss fs ns q ms =
    record { counts = cs; idsums = ss; flows = fs; numbers = ns; queue = q; marks = ms }

-- the sketch among them, and the same with another sketch, and with other marks
abbrev pub lent_sketch : Slices → Sketch
lent_sketch L = sketch L.counts L.idsums

abbrev pub with_sketch : Sketch → Slices → Slices
with_sketch S L = slices S.counts S.idsums L.flows L.numbers L.queue L.marks

abbrev pub with_marks : List ℕ → Slices → Slices
with_marks ms L = slices L.counts L.idsums L.flows L.numbers L.queue ms
