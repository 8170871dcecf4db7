-- What is computed over each table: written by tools/tables, and proved.
use Rattle.std.specs.Prelude.{List, [], ◌∷◌, ℕ}
use Rattle.tables.specs.Units.{stretch}
use Rattle.tables.specs.declared.Curve.{Curve}
use Rattle.tables.specs.declared.Curve.TheVariants.{XBar, YBar, ZBar, XBar10, YBar10, ZBar10, VPrime, VF, VF10}
use Rattle.tables.specs.declared.Illuminant.{Illuminant}
use Rattle.tables.specs.declared.Illuminant.TheVariants.{A, D65}
use Rattle.tables.specs.declared.units.Stretch.{Stretch}

-- every curve
abbrev pub curves : List Curve
curves = XBar ∷ YBar ∷ ZBar ∷ XBar10 ∷ YBar10 ∷ ZBar10 ∷ VPrime ∷ VF ∷ VF10 ∷ []

-- what the entries of a curve add up to
abbrev pub table_sum : Curve → ℕ
table_sum XBar = 1068654694895950
table_sum YBar = 1068569171011719
table_sum ZBar = 1068922512786360
table_sum XBar10 = 1166485195089080
table_sum YBar10 = 1166618771023120
table_sum ZBar10 = 1166739805146470
table_sum VPrime = 970713165740000
table_sum VF = 1130423145723374
table_sum VF10 = 1185180915321789

-- and the largest of them
abbrev pub table_top : Curve → ℕ
table_top XBar = 10629096000000
table_top YBar = 10000000000000
table_top ZBar = 17829682000000
table_top XBar10 = 11343000000000
table_top YBar10 = 10000000000000
table_top ZBar10 = 20273000000000
table_top VPrime = 10000000000000
table_top VF = 9999930000000
table_top VF10 = 9999440000000

-- the same of an illuminant
abbrev pub powers_sum : Illuminant → ℕ
powers_sum A = 6007637200
powers_sum D65 = 3918769960

-- and its largest
abbrev pub powers_top : Illuminant → ℕ
powers_top A = 26160200
powers_top D65 = 11781200

-- what illuminant times curve adds up to
abbrev pub lit_sum : Illuminant → Curve → ℕ
lit_sum A XBar = 11852365341380528142000
lit_sum A YBar = 10789559695313886949330
lit_sum A ZBar = 3839457279331639104000
lit_sum A XBar10 = 12647358174535456016600
lit_sum A YBar10 = 11379260143253935908460
lit_sum A ZBar10 = 4005493162587449059740
lit_sum A VPrime = 6121773552252095400000
lit_sum A VF = 11362681019482532806100
lit_sum A VF10 = 11484501668769205049600
lit_sum D65 XBar = 10043700015367632284300
lit_sum D65 YBar = 10567081666988122222240
lit_sum D65 ZBar = 11505742178858795582400
lit_sum D65 XBar10 = 11017375735781362489200
lit_sum D65 YBar10 = 11620348647650694114000
lit_sum D65 ZBar10 = 12469176716130656982100
lit_sum D65 VPrime = 10462969390358220200000
lit_sum D65 VF = 11170759465880331282450
lit_sum D65 VF10 = 11819363753161816257940

-- the units in which the code counts a curve's entries, stretch by stretch
abbrev pub units : Curve → List Stretch
units XBar = stretch 190 1000 ∷ stretch 375 10000 ∷ stretch 471 10 ∷ stretch 471 1 ∷ []
units YBar = stretch 61 10 ∷ stretch 361 10000 ∷ stretch 459 10 ∷ stretch 471 1 ∷ []
units ZBar = stretch 57 1000 ∷ stretch 246 10000 ∷ stretch 471 10 ∷ stretch 471 1 ∷ []
units XBar10 = stretch 33 10 ∷ stretch 410 10000 ∷ stretch 471 1 ∷ stretch 471 1 ∷ []
units YBar10 = stretch 45 10 ∷ stretch 405 10000 ∷ stretch 471 1 ∷ stretch 471 1 ∷ []
units ZBar10 = stretch 27 10 ∷ stretch 471 10000 ∷ stretch 471 1 ∷ stretch 471 1 ∷ []
units VPrime = stretch 404 10000 ∷ stretch 471 1 ∷ stretch 471 1 ∷ stretch 471 1 ∷ []
units VF = stretch 146 1000 ∷ stretch 360 10000 ∷ stretch 464 10 ∷ stretch 471 1 ∷ []
units VF10 = stretch 137 1000 ∷ stretch 358 10000 ∷ stretch 463 10 ∷ stretch 471 1 ∷ []
