mod OneLine
