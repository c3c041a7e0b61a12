-- The kinds of record and the transaction codes, and what may stand after what.
use Rattle.std.specs.Prelude.{ℕ, Bool, true, false, cond, List, eqb, get_or}
use Rattle.paper.specs.declared.record.Kind.{Kind}
use Rattle.paper.specs.declared.record.Kind.TheVariants.{FileHeader, BatchHeader, Individual, Additional, BatchControl, FileControl, Other}
use Rattle.paper.specs.declared.record.Code.{Code}
use Rattle.paper.specs.declared.record.Code.TheVariants.{Order, Rejection, Reversal, ReversalRejection, Unknown}
use Rattle.paper.specs.declared.record.Before.{Before}
use Rattle.paper.specs.declared.record.Before.TheVariants.{Nothing, Between, Opened, Flagged, Inside, Ended}
use Rattle.paper.specs.Checks.{Check, fine, wrong}
use Rattle.paper.specs.Fields.{field, is}

-- a record's type by its first byte: the digits 1, 5, 6, 7, 8, 9
unfoldable pub kind : ℕ → Kind
kind b =
    cond (eqb b 49) FileHeader
    (cond (eqb b 53) BatchHeader
    (cond (eqb b 54) Individual
    (cond (eqb b 55) Additional
    (cond (eqb b 56) BatchControl
    (cond (eqb b 57) FileControl
    Other)))))

unfoldable pub kind_of : List ℕ → Kind
kind_of r = kind (get_or r 0 0)

-- a 5, a 6, a 7, an 8
abbrev pub opens_batch : Kind → Bool
opens_batch FileHeader = false
opens_batch BatchHeader = true
opens_batch Individual = false
opens_batch Additional = false
opens_batch BatchControl = false
opens_batch FileControl = false
opens_batch Other = false

abbrev pub is_individual : Kind → Bool
is_individual FileHeader = false
is_individual BatchHeader = false
is_individual Individual = true
is_individual Additional = false
is_individual BatchControl = false
is_individual FileControl = false
is_individual Other = false

abbrev pub is_additional : Kind → Bool
is_additional FileHeader = false
is_additional BatchHeader = false
is_additional Individual = false
is_additional Additional = true
is_additional BatchControl = false
is_additional FileControl = false
is_additional Other = false

abbrev pub closes_batch : Kind → Bool
closes_batch FileHeader = false
closes_batch BatchHeader = false
closes_batch Individual = false
closes_batch Additional = false
closes_batch BatchControl = true
closes_batch FileControl = false
closes_batch Other = false

-- an individual record's transaction code
unfoldable pub code_of : List ℕ → Code
code_of r =
    cond (is (field r 2 3) "37") Order
    (cond (is (field r 2 3) "36") Rejection
    (cond (is (field r 2 3) "32") Reversal
    (cond (is (field r 2 3) "31") ReversalRejection
    Unknown)))

abbrev pub known : Code → Bool
known Order = true
known Rejection = true
known Reversal = true
known ReversalRejection = true
known Unknown = false

-- code 37
abbrev pub is_order : Code → Bool
is_order Order = true
is_order Rejection = false
is_order Reversal = false
is_order ReversalRejection = false
is_order Unknown = false

-- codes 37 and 36: the sender collects. A rejection returns a debit, and its sender collects too
abbrev pub collects : Code → Bool
collects Order = true
collects Rejection = true
collects Reversal = false
collects ReversalRejection = false
collects Unknown = false

-- codes 37 and 36: "01" may stand in 77-78
abbrev pub takes01 : Code → Bool
takes01 Order = true
takes01 Rejection = true
takes01 Reversal = false
takes01 ReversalRejection = false
takes01 Unknown = false

-- codes 32 and 31: the sender pays
abbrev pub pays : Code → Bool
pays Order = false
pays Rejection = false
pays Reversal = true
pays ReversalRejection = true
pays Unknown = false

-- codes 36 and 31: the additional record is a 99; after the others it is an 05
abbrev pub rejects : Code → Bool
rejects Order = false
rejects Rejection = true
rejects Reversal = false
rejects ReversalRejection = true
rejects Unknown = false

-- one row of the table below: what is said of a 1, a 5, a 6, a 7, an 8, a 9, any other byte
abbrev row : Check → Check → Check → Check → Check → Check → Check → Kind → Check
row h b i a c f o FileHeader = h
row h b i a c f o BatchHeader = b
row h b i a c f o Individual = i
row h b i a c f o Additional = a
row h b i a c f o BatchControl = c
row h b i a c f o FileControl = f
row h b i a c f o Other = o

abbrev n17 : Check
n17 = wrong 17

abbrev n25 : Check
n25 = wrong 25

-- what may stand after what: columns 1, 5, 6, 7, 8, 9, else
unfoldable pub allowed : Before → Kind → Check
allowed Nothing k = row fine n17 n17 n17 n17 n17 n17 k
allowed Between k = row n17 fine n17 n17 n17 fine n17 k
allowed Opened k = row n17 n17 fine n17 n17 n17 n17 k
allowed Flagged k = row n25 n25 n25 fine n25 n25 n25 k
allowed Inside k = row n17 n17 fine n25 fine n17 n17 k
allowed Ended k = n17
