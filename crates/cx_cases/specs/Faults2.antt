-- Texts, each with its first fault.
use Rattle.std.specs.Prelude.{ℕ, List, codes}

-- line 2 has the fault OutOfRange
abbrev pub derived_fault061 : List ℕ
derived_fault061 = codes "cxthread 1\nasync x both throw 4294967296\nmain\nend\n"

-- line 2 has the fault UnknownName
abbrev pub derived_fault069 : List ℕ
derived_fault069 = codes "cxthread 1\nbody a\nend\nmain\nend\n"

-- line 3 has the fault WrongKind
abbrev pub derived_fault071 : List ℕ
derived_fault071 = codes "cxthread 1\nasync x async return 1\nbody x\nend\nmain\nend\n"

-- line 1 has the fault BadVersion
abbrev pub derived_fault083 : List ℕ
derived_fault083 = codes "cxthread 01\nmain\nend\n"

-- line 3 has the fault BadVersion
abbrev pub derived_fault087 : List ℕ
derived_fault087 = codes "# c\n \nmain\n"

-- line 4 has the fault WrongKind
abbrev pub derived_fault089 : List ℕ
derived_fault089 = codes "cxthread 1\nthread a\nbody a\nstart a\nend\nmain\nend\n"

-- line 4 has the fault WrongKind
abbrev pub derived_fault095 : List ℕ
derived_fault095 = codes "cxthread 1\nthread a\nmain\nlaunch a\nend\n"

-- line 4 has the fault WrongKind
abbrev pub derived_fault097 : List ℕ
derived_fault097 = codes "cxthread 1\nasync x async return 1\nmain\njoin x\nend\n"

-- line 4 has the fault WrongKind
abbrev pub derived_fault099 : List ℕ
derived_fault099 = codes "cxthread 1\nasync x async return 1\nmain\nshare x\nend\n"

-- line 4 has the fault WrongKind
abbrev pub derived_fault101 : List ℕ
derived_fault101 = codes "cxthread 1\njthread w\nmain\ndrop w\nend\n"

-- line 5 has the fault WrongKind
abbrev pub derived_fault109 : List ℕ
derived_fault109 = codes "cxthread 1\nthread a\npromise p main a\nmain\nget_future p\nend\n"

-- line 4 has the fault WrongKind
abbrev pub derived_fault111 : List ℕ
derived_fault111 = codes "cxthread 1\ntask f main main return 1\nmain\nset_value f 1\nend\n"

-- line 4 has the fault OutOfRange
abbrev pub derived_fault115 : List ℕ
derived_fault115 = codes "cxthread 1\nmutex m 0\nmain\nget m 0\nend\n"

-- line 4 has the fault BadWord
abbrev pub derived_fault117 : List ℕ
derived_fault117 = codes "cxthread 1\nmutex m 1\nmain\nget m x\nend\n"

-- line 4 has the fault WrongKind
abbrev pub derived_fault119 : List ℕ
derived_fault119 = codes "cxthread 1\npromise p main main\nmain\nget p 0\nend\n"

-- line 4 has the fault OutOfRange
abbrev pub derived_fault121 : List ℕ
derived_fault121 = codes "cxthread 1\nmutex m 1\nmain\nset m 0 9223372036854775808\nend\n"

-- line 4 has the fault BadWord
abbrev pub derived_fault123 : List ℕ
derived_fault123 = codes "cxthread 1\nmutex m 1\nmain\nadd m 0 -\nend\n"

-- line 5 has the fault Twice
abbrev pub derived_fault125 : List ℕ
derived_fault125 = codes "cxthread 1\nmutex m 0\nmutex n 0\nmain\nlock_all m m\nend\n"

-- line 5 has the fault WrongKind
abbrev pub derived_fault127 : List ℕ
derived_fault127 = codes "cxthread 1\nmutex m 0\nrecursive n\nmain\nlock_all m n\nend\n"

-- line 4 has the fault BadWord
abbrev pub derived_fault129 : List ℕ
derived_fault129 = codes "cxthread 1\nmutex m 0\nmain\nlock ok\nend\n"
