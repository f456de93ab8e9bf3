-- No place of a box is nearer than its nearest.
use Rattle.std.proofs.Common.{◌≡◌, ◌≤◌, ◌*◌, ℤ, pos, negsuc, arith}
use Rattle.std.proofs.Math.IntN.{pos-*ℤ-pos, negsuc-*ℤ-negsuc}
use Rattle.std.proofs.lemmas.Int.{ints}
use Rattle.std.proofs.lemmas.Nat.{mul-le}
use Rattle.std.specs.Prelude.{◌≤ℤ◌, ◌-ℤ◌, unsigned_abs}
use Rattle.sgl_values.specs.Distance.{square, squared_distance}
use Rattle.nearest_tree.specs.declared.mark.Mark.{Mark}
use Rattle.nearest_tree.specs.declared.point.NearPoint.{NearPoint}
use Rattle.nearest_tree.specs.Marks.{within, box_distance}

square-is : (z : ℤ) → square z ≡ pos (unsigned_abs z * unsigned_abs z)
square-is (pos n) = pos-*ℤ-pos n n
square-is (negsuc n) = negsuc-*ℤ-negsuc n n

square-le : (a b : ℤ) → unsigned_abs a ≤ unsigned_abs b → square a ≤ℤ square b
square-le a b below =
    let more : unsigned_abs a * unsigned_abs a ≤ unsigned_abs b * unsigned_abs b = mul-le (unsigned_abs a) (unsigned_abs a) (unsigned_abs b) (unsigned_abs b) below below in
    omega (arith, ints, square-is a, square-is b, more)

gap-le : (low high number from : ℤ) → low ≤ℤ number → number ≤ℤ high → unsigned_abs (within low high from -ℤ from) ≤ unsigned_abs (number -ℤ from)
gap-le low high number from first last = grind (arith, ints)

pub box-below : (x y : ℤ) (mark : Mark) (point : NearPoint) → mark.west ≤ℤ point.x → point.x ≤ℤ mark.east → mark.south ≤ℤ point.y → point.y ≤ℤ mark.north
    → box_distance x y mark ≤ℤ squared_distance x y point.x point.y
box-below x y mark point west east south north =
    let across = square-le (within mark.west mark.east x -ℤ x) (point.x -ℤ x) (gap-le mark.west mark.east point.x x west east) in
    let along = square-le (within mark.south mark.north y -ℤ y) (point.y -ℤ y) (gap-le mark.south mark.north point.y y south north) in
    omega (arith, ints, across, along)
